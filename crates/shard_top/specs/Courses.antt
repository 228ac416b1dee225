-- That the commands of a history keep to their courses to the end: each ends without the lock, and one that leaves its course, for want of memory,
-- does nothing more than free the lock and end. The lock is that of PlannedReparentShard (Vitess manual).
use Rattle.std.specs.Prelude.{◌≡◌, ◌≢◌, ◌⊎◌, ℕ, List, [], ◌∷◌, Some, None, false, length, slice_get, ⊤}
use Rattle.shard_calls.specs.declared.ending.CommandAnswer.{CommandAnswer}
use Rattle.shard_calls.specs.declared.ending.CommandAnswer.TheVariants as answers
use Rattle.shard_calls.specs.declared.event.Event.{Event}
use Rattle.shard_calls.specs.declared.event.Event.TheVariants as events
use Rattle.shard_calls.specs.declared.event.Step.{Step}
use Rattle.shard_calls.specs.declared.refusal.Refusal.TheVariants as refusals
use Rattle.shard_calls.specs.declared.state.CommandState.{CommandState}
use Rattle.shard_calls.specs.World.{Config, World, opening, open_command}
use Rattle.shard_calls.specs.Table.{after}
use Rattle.planned.specs.Course.{may}
use Rattle.planned.specs.Follows.{maker_of, FollowCourses}
use Rattle.planned.specs.Leaving.{owes_release}

-- a command that ends here has freed the lock, if it took it
abbrev pub HasFreed : World → Event → Type 0
HasFreed w e = (c : ℕ) (answer : CommandAnswer) (s : CommandState) → e ≡ events.End c answer → open_command w c ≡ Some s → owes_release s ≡ false

abbrev pub EndFree : Config → World → List Step → Type 0
EndFree config w [] = ⊤
EndFree config w (s ∷ steps) = HasFreed w s.event × EndFree config (after config w s.event) steps

-- refusal 20
abbrev pub out_of_memory : ℕ → Event
out_of_memory c = events.End c (answers.Refused refusals.OutOfMemory None)

-- it is none of the events that its course allows the command
abbrev pub IsOutside : Config → World → ℕ → Event → Type 0
IsOutside config w c e = (n : ℕ) → slice_get (may config w c) n ≡ Some e → ⊥

-- the command makes none of these steps
abbrev pub MakesNone : ℕ → List Step → Type 0
MakesNone c [] = ⊤
MakesNone c (s ∷ steps) = (maker_of s.event ≢ Some c) × MakesNone c steps

-- the next of these steps that the command makes is its end with refusal 20, and it makes none behind it; or it makes none, which is so where the history is full
abbrev pub OnlyEnds : ℕ → Type 0 → List Step → Type 0
OnlyEnds c IsFull [] = IsFull
OnlyEnds c IsFull (s ∷ steps) = ((s.event ≡ out_of_memory c) × MakesNone c steps) ⊎ ((maker_of s.event ≢ Some c) × OnlyEnds c IsFull steps)

-- by this event the command ends with refusal 20, or it frees the lock and then ends so
abbrev pub LeavesBy : ℕ → Type 0 → Event → List Step → Type 0
LeavesBy c IsFull e steps = ((e ≡ out_of_memory c) × MakesNone c steps) ⊎ ((e ≡ events.Release c) × OnlyEnds c IsFull steps)

-- so leaves every command that makes an event outside its course
abbrev pub LeaveForGood : Config → World → Type 0 → List Step → Type 0
LeaveForGood config w IsFull [] = ⊤
LeaveForGood config w IsFull (s ∷ steps) =
    ((c : ℕ) → maker_of s.event ≡ Some c → IsOutside config w c s.event → LeavesBy c IsFull s.event steps) × LeaveForGood config (after config w s.event) IsFull steps

-- the commands of a history keep to their courses
pub record KeepCourses (config : Config) (steps : List Step) : Type 0 where
  pub follow : FollowCourses config (opening config) steps
  pub end_free : EndFree config (opening config) steps
  pub leave_for_good : LeaveForGood config (opening config) (length steps ≡ 1000000) steps
