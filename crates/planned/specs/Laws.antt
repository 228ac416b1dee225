-- The laws of courses: in every history, whatever the commands did before, what a command may do next can be done; and a command that may do
-- nothing waits. The commands are those of vtctldclient (Vitess manual).
use Rattle.std.specs.Prelude.{◌≡◌, ℕ, Bool, List, [], Some, None, is_none, nat_lt, IsTrue}
use Rattle.std.specs.List.{list_any, AllByRecursion}
use Rattle.shard_calls.specs.declared.event.Event.{Event}
use Rattle.shard_calls.specs.declared.event.Step.{Step}
use Rattle.shard_calls.specs.declared.state.CommandState.{CommandState}
use Rattle.shard_calls.specs.declared.state.Wrote.{Wrote}
use Rattle.shard_calls.specs.Outcomes.{Sending, sendings}
use Rattle.shard_calls.specs.World.{Config, World, opening, open_command}
use Rattle.shard_calls.specs.Writes.{tell_of}
use Rattle.shard_calls.specs.Table.{Met, after, world_after, IsRun}
use Rattle.shard_calls.specs.declared.ending.CommandAnswer.{CommandAnswer}
use Rattle.planned.specs.Leaving.{leaving}
use Rattle.planned.specs.Course.{WaitsInTime, may, next, leaves}

-- the clock begins before the year 9999
abbrev pub BeginsInTime : Config → Type 0
BeginsInTime config = IsTrue (nat_lt config.moment 253370764800000)

-- a law of the worlds to which histories lead
abbrev pub OfEveryWorld : (Config → World → Type 0) → Type 0
OfEveryWorld Law = (config : Config) (steps : List Step) → BeginsInTime config → IsRun config steps → Law config (world_after config (opening config) steps)

-- no open command waits for anything beyond the year 9999
abbrev pub AllWaitInTime : Config → World → Type 0
AllWaitInTime config w = (c : ℕ) → WaitsInTime w c

-- all that a command may do next meets its row's condition
abbrev pub MayIsMet : Config → World → Type 0
MayIsMet config w = (c : ℕ) → AllByRecursion (Met config w) (may config w c)

-- and so does what it does next
abbrev pub NextIsMet : Config → World → Type 0
NextIsMet config w = (c : ℕ) (e : Event) → next config w c ≡ Some e → Met config w e

-- an open command can leave at any time
abbrev pub LeavingIsMet : Type 0
LeavingIsMet = (config : Config) (w : World) (c : ℕ) (s : CommandState) → open_command w c ≡ Some s → Met config w (leaves w c)

-- nothing has come of the call yet
abbrev pub is_unsettled : Sending → Bool
is_unsettled x = is_none x.outcome

-- what a command waits for: a call of its own that is out, or whether its entry counts as committed
pub data Waits (w : World) (c : ℕ) (s : CommandState) : Type 0 where
  ForCall : IsTrue (list_any is_unsettled (sendings w.post s.acts)) → Waits w c s
  ToBeTold : (x : Wrote) → s.wrote ≡ Some x → tell_of w c ≡ None → Waits w c s

-- an open command that may do nothing waits
abbrev pub NoneBlocks : Config → World → Type 0
NoneBlocks config w = (c : ℕ) (s : CommandState) → open_command w c ≡ Some s → may config w c ≡ [] → Waits w c s

-- how a command leaves, with whatever answer, changes no tablet and sends nothing
abbrev pub LeavingIsQuiet : Type 0
LeavingIsQuiet = (config : Config) (w : World) (c : ℕ) (s : CommandState) (x : CommandAnswer)
    → ((after config w (leaving c s x)).tablets ≡ w.tablets) × ((after config w (leaving c s x)).post ≡ w.post)
