-- The events of commands that keep to their courses. The commands are those of vtctldclient (Vitess manual).
use Rattle.std.specs.Prelude.{◌≡◌, ℕ, List, [], ◌∷◌, Option, Some, None, slice_get, ⊤}
use Rattle.std.specs.List.{AllByRecursion}
use Rattle.shard_calls.specs.declared.event.Event.{Event}
use Rattle.shard_calls.specs.declared.event.Event.TheVariants as events
use Rattle.shard_calls.specs.declared.event.Step.{Step}
use Rattle.shard_calls.specs.declared.state.CommandState.{CommandState}
use Rattle.shard_calls.specs.World.{Config, World, open_command}
use Rattle.shard_calls.specs.Table.{Met, after}
use Rattle.planned.specs.Course.{may, next, leaves}

-- the command that makes the event; a Begin is its actor's, and the other events are nobody's
abbrev pub maker_of : Event → Option ℕ
maker_of (events.Begin name command) = None
maker_of (events.Take c) = Some c
maker_of (events.Read c) = Some c
maker_of (events.Intend c a) = Some c
maker_of (events.Record c a) = Some c
maker_of (events.Drain c a) = Some c
maker_of (events.Release c) = Some c
maker_of events.Lapse = None
maker_of (events.Send c a call) = Some c
maker_of (events.Deliver k) = None
maker_of (events.GiveUp c k) = Some c
maker_of (events.Offer r) = None
maker_of (events.Write c a) = Some c
maker_of (events.Tell c) = Some c
maker_of (events.Local a) = None
maker_of (events.Crash a keep) = None
maker_of (events.Restart a) = None
maker_of (events.Cut x y) = None
maker_of (events.Mend x y) = None
maker_of (events.Lose k) = None
maker_of (events.Tick ms) = None
maker_of (events.End c x) = Some c

-- it is one of the events that the course of the command allows, or the command leaves for want of memory
pub data IsOfCourse (config : Config) (w : World) (c : ℕ) (e : Event) : Type 0 where
  Goes : (n : ℕ) → slice_get (may config w c) n ≡ Some e → IsOfCourse config w c e
  Leaves : (s : CommandState) → open_command w c ≡ Some s → e ≡ leaves w c → IsOfCourse config w c e

-- whichever command makes the event keeps to its course
abbrev pub KeepsToCourse : Config → World → Event → Type 0
KeepsToCourse config w e = (c : ℕ) → maker_of e ≡ Some c → IsOfCourse config w c e

-- in all of these steps commands keep to their courses
abbrev pub FollowCourses : Config → World → List Step → Type 0
FollowCourses config w [] = ⊤
FollowCourses config w (s ∷ ss) = KeepsToCourse config w s.event × FollowCourses config (after config w s.event) ss

-- ---- laws

-- what a command may do are events that it makes
abbrev pub MayIsOwn : Type 0
MayIsOwn = (config : Config) (w : World) (c : ℕ) → AllByRecursion (λ e. maker_of e ≡ Some c) (may config w c)

-- and so is that by which it leaves
abbrev pub LeavingIsOwn : Type 0
LeavingIsOwn = (w : World) (c : ℕ) → maker_of (leaves w c) ≡ Some c

-- an event of a command's course meets its row's condition
abbrev pub CourseIsMet : Config → World → Type 0
CourseIsMet config w = (c : ℕ) (e : Event) → IsOfCourse config w c e → Met config w e

-- what a command does next keeps to its course
abbrev pub NextKeeps : Type 0
NextKeeps = (config : Config) (w : World) (c : ℕ) (e : Event) → next config w c ≡ Some e → KeepsToCourse config w e

-- so does a command that leaves for want of memory
abbrev pub LeavingKeeps : Type 0
LeavingKeeps = (config : Config) (w : World) (c : ℕ) (s : CommandState) → open_command w c ≡ Some s → KeepsToCourse config w (leaves w c)

-- and an event that no command makes breaks no course
abbrev pub OthersKeep : Type 0
OthersKeep = (config : Config) (w : World) (e : Event) → maker_of e ≡ None → KeepsToCourse config w e
