-- Actors and their commands, over every run: who has which command open.
use Rattle.std.specs.Prelude.{◌≡◌, ℕ, ◌<◌, true, List, Some, IsTrue}
use Rattle.shard_calls.specs.World.{Config, World, opening, numbered, open_of, open_command}
use Rattle.shard_calls.specs.Begins.{is_in_time, names_declared}
use Rattle.shard_calls.specs.Table.{Met, world_after, IsRun}
use Rattle.shard_calls.specs.declared.command.Command.{Command}
use Rattle.shard_calls.specs.declared.event.Event.TheVariants as events
use Rattle.shard_calls.specs.declared.event.Step.{Step}
use Rattle.shard_calls.specs.declared.state.CommandState.{CommandState}

-- the command that an actor has pending is open, and is theirs
abbrev pub PendingIsOpen : World → Type 0
PendingIsOpen w =
    (name : List ℕ) (c : ℕ) → open_of w.actors name ≡ Some c → (s : CommandState) × (open_command w c ≡ Some s) × (s.actor ≡ name)

-- an open command is the one that its actor has pending
abbrev pub OpenIsPending : World → Type 0
OpenIsPending w = (c : ℕ) (s : CommandState) → open_command w c ≡ Some s → open_of w.actors s.actor ≡ Some c

-- of two commands of an actor the earlier has ended
abbrev pub EarlierHasEnded : World → Type 0
EarlierHasEnded w =
    (c d : ℕ) (s x : CommandState) → numbered w.commands c ≡ Some s → numbered w.commands d ≡ Some x → s.actor ≡ x.actor → c < d → s.ended ≡ true

-- an actor none of whose commands is open may give one that waits at most a day, at declared tablets
abbrev pub FreeMayBegin : Config → World → Type 0
FreeMayBegin config w =
    (name : List ℕ) (command : Command) → IsTrue (is_in_time command) → IsTrue (names_declared config command) → ((c : ℕ) (s : CommandState) → open_command w c ≡ Some s → s.actor ≡ name → ⊥)
    → Met config w (events.Begin name command)

-- and so may an actor whose last command has ended
abbrev pub EndedMayBegin : Config → World → Type 0
EndedMayBegin config w =
    (c : ℕ) (s : CommandState) (command : Command) → IsTrue (is_in_time command) → IsTrue (names_declared config command) → numbered w.commands c ≡ Some s → s.ended ≡ true
    → ((d : ℕ) (x : CommandState) → numbered w.commands d ≡ Some x → x.actor ≡ s.actor → c < d → ⊥) → Met config w (events.Begin s.actor command)

-- actors and commands fit each other
pub record ActorsFit (config : Config) (w : World) : Type 0 where
  pub pending : PendingIsOpen w
  pub opens : OpenIsPending w
  pub earlier : EarlierHasEnded w
  pub free : FreeMayBegin config w
  pub ended : EndedMayBegin config w

-- after every run they do
abbrev pub ActorsFitAlways : Type 0
ActorsFitAlways = (config : Config) (steps : List Step) → IsRun config steps → ActorsFit config (world_after config (opening config) steps)
