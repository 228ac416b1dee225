-- Once a course has decided how its command ends, nothing changes that: what comes of its calls later is not looked at any more. An emergency that is
-- refused undoes nothing. After EmergencyReparentShard (Vitess manual).
use Rattle.std.specs.Prelude.{◌≡◌, Bool, List, map, Option, None}
use Rattle.shard_calls.specs.declared.command.Command.{Command}
use Rattle.shard_calls.specs.declared.command.EmergencyOptions.{EmergencyOptions}
use Rattle.shard_calls.specs.declared.ending.CommandAnswer.{CommandAnswer}
use Rattle.shard_calls.specs.declared.ending.CommandAnswer.TheVariants as endings
use Rattle.shard_calls.specs.declared.group.Group.{Group}
use Rattle.shard_calls.specs.declared.refusal.Refusal.{Refusal}
use Rattle.shard_calls.specs.declared.span.Deed.{Deed}
use Rattle.shard_calls.specs.declared.state.Opening.{Opening}
use Rattle.courses.specs.declared.demands.Demand.TheVariants.{Leaves}
use Rattle.courses.specs.Course.{demand}
use Rattle.courses.specs.Emergency.{emergency_course}
use Rattle.courses.specs.Laws.{News, settle}
use Rattle.recovery_loop.specs.Course.{course_of}

-- a command that leaves goes on leaving, with the same answer, whatever comes of its calls
abbrev pub LeavesForGood : Type 0
LeavesForGood = (g : Group) (command : Command) (opening : Opening) (h : News) (span : List Deed) (x : CommandAnswer)
    → demand (course_of g command opening) span ≡ Leaves x → demand (course_of g command opening) (map (settle h) span) ≡ Leaves x

-- an emergency that is refused has tried no undo
abbrev pub EmergencyUndoesNothing : Type 0
EmergencyUndoesNothing = (g : Group) (o : EmergencyOptions) (span : List Deed) (r : Refusal) (undone : Option Bool)
    → demand (emergency_course g o) span ≡ Leaves (endings.Refused r undone) → undone ≡ None
