-- That a command keeps to its course to the end. The courses are those of vtctldclient's commands (Vitess manual). Each event of the command is one that
-- its course allows, or it leaves for want of memory; and once it has freed the lock it only ends.
use Rattle.std.specs.Prelude.{◌≡◌, ◌<◌, ℕ, List, Some, None, slice_get}
use Rattle.shard_calls.specs.declared.ending.CommandAnswer.{CommandAnswer}
use Rattle.shard_calls.specs.declared.ending.CommandAnswer.TheVariants as answers
use Rattle.shard_calls.specs.declared.event.Event.{Event}
use Rattle.shard_calls.specs.declared.event.Event.TheVariants as events
use Rattle.shard_calls.specs.declared.event.Step.{Step}
use Rattle.shard_calls.specs.declared.refusal.Refusal.TheVariants as refusals
use Rattle.shard_calls.specs.declared.state.CommandState.{CommandState}
use Rattle.shard_calls.specs.World.{Config, World, numbered, opening}
use Rattle.shard_calls.specs.Promotions.{world_at}
use Rattle.courses.specs.declared.demands.Demand.TheVariants as demands
use Rattle.planned.specs.Course.{demand_of}
use Rattle.planned.specs.Follows.{maker_of, FollowCourses}

-- refusal 20, with no undo of anything
abbrev pub out_of_memory : CommandAnswer
out_of_memory = answers.Refused refusals.OutOfMemory None

-- it ends with what its course had come to in this world, or for want of memory
pub data Ends (config : Config) (w : World) (c : ℕ) (e : Event) : Type 0 where
  EndsSo : (s : CommandState) (x : CommandAnswer) → numbered w.commands c ≡ Some s → demand_of config w s ≡ demands.Leaves x → e ≡ events.End c x
      → Ends config w c e
  EndsForMemory : e ≡ events.End c out_of_memory → Ends config w c e

pub record KeepsToCourse (config : Config) (steps : List Step) (c : ℕ) : Type 0 where
  -- commands follow their courses
  pub follows : FollowCourses config (opening config) steps
  -- and once this one has freed the lock it only ends, with what its course had come to when it freed it, or for want of memory
  pub leaves : (r k : ℕ) (freed step : Step) → slice_get steps r ≡ Some freed → freed.event ≡ events.Release c → r < k
      → slice_get steps k ≡ Some step → maker_of step.event ≡ Some c → Ends config (world_at config steps r) c step.event
