-- What an EmergencyReparentShard (Vitess manual) does once it is decided that it is refused: it frees the lock and ends, sends nothing, and changes no
-- tablet. A call that it sent before may still come.
use Rattle.std.specs.Prelude.{◌≡◌, ◌≤◌, ℕ, suc, List, Some, slice_get}
use Rattle.shard_names.specs.declared.alias.Alias.{Alias}
use Rattle.shard_calls.specs.declared.call.Call.{Call}
use Rattle.shard_calls.specs.declared.command.EmergencyOptions.{EmergencyOptions}
use Rattle.shard_calls.specs.declared.ending.CommandAnswer.{CommandAnswer}
use Rattle.shard_calls.specs.declared.event.Event.{Event}
use Rattle.shard_calls.specs.declared.event.Event.TheVariants as events
use Rattle.shard_calls.specs.declared.event.Step.{Step}
use Rattle.shard_calls.specs.declared.state.CommandState.{CommandState}
use Rattle.shard_calls.specs.Commands.{emergency_options}
use Rattle.shard_calls.specs.World.{Config, World, numbered, opening}
use Rattle.shard_calls.specs.Promotions.{world_at}
use Rattle.courses.specs.declared.demands.Demand.TheVariants as demands
use Rattle.planned.specs.Course.{demand_of}
use Rattle.planned.specs.Follows.{maker_of, FollowCourses}

-- the command leaves with this event: it frees the lock, or it ends
pub data IsLeaving (c : ℕ) : Event → Type 0 where
  Frees : IsLeaving c (events.Release c)
  Ends : (x : CommandAnswer) → IsLeaving c (events.End c x)

-- At this moment command c is an emergency, and its course, by what it did and what its calls came to so far, leaves: it is refused, or has run to its
-- end.
pub record IsDecided (config : Config) (w : World) (c : ℕ) : Type 0 where
  pub state : CommandState
  pub here : numbered w.commands c ≡ Some state
  pub options : EmergencyOptions
  pub emergency : emergency_options state.command ≡ Some options
  pub answer : CommandAnswer
  pub leaves : demand_of config w state ≡ demands.Leaves answer

-- from step r on
pub record UndoesNothing (config : Config) (steps : List Step) (c r : ℕ) : Type 0 where
  -- the command makes nothing but its Release and its End
  pub only_leaves : (k : ℕ) (s : Step) → r ≤ k → slice_get steps k ≡ Some s → maker_of s.event ≡ Some c → IsLeaving c s.event
  -- so it sends no call
  pub sends_nothing : (k : ℕ) (s : Step) (a : Alias) (call : Call) → r ≤ k → slice_get steps k ≡ Some s → s.event ≡ events.Send c a call → ⊥
  -- and what it makes changes no tablet, and no message
  pub tablets_stay : (k : ℕ) (s : Step) (a : Alias) → r ≤ k → slice_get steps k ≡ Some s → maker_of s.event ≡ Some c
      → (world_at config steps (suc k)).tablets a ≡ (world_at config steps k).tablets a
  pub post_stays : (k : ℕ) (s : Step) → r ≤ k → slice_get steps k ≡ Some s → maker_of s.event ≡ Some c
      → (world_at config steps (suc k)).post ≡ (world_at config steps k).post

-- where commands follow their courses, an emergency undoes nothing once it is decided that it is refused
abbrev pub RefusedUndoesNothing : Config → List Step → Type 0
RefusedUndoesNothing config steps = FollowCourses config (opening config) steps → (c r : ℕ) → IsDecided config (world_at config steps r) c → UndoesNothing config steps c r
