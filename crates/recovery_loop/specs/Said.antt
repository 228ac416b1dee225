-- What a vtorc does, by what each tablet said. After VTOrc (Vitess manual, "VTOrc").
use Rattle.std.specs.Prelude.{List, [], Option, Some, None, if◌then◌else◌}
use Rattle.shard_names.specs.declared.alias.Alias.{Alias}
use Rattle.shard_calls.specs.declared.analysis.Finding.{Finding}
use Rattle.shard_calls.specs.declared.ending.CommandAnswer.{CommandAnswer}
use Rattle.shard_calls.specs.declared.event.Seen.{Seen}
use Rattle.shard_calls.specs.declared.group.Group.{Group}
use Rattle.shard_calls.specs.Analysis.{Statuses, finds, is_orphaned, is_to_repair, is_urgent}
use Rattle.shard_calls.specs.Causes.{forced, plain}
use Rattle.shard_calls.specs.Refusals.{recorded_alias}
use Rattle.courses.specs.Walks.{Course, gives}
use Rattle.courses.specs.Planned.{planned_course}
use Rattle.courses.specs.Emergency.{emergency_course}
use Rattle.recovery_loop.specs.Watch.{watched, heals, repairs_by}

abbrev pub repairs_said : Option Alias → List Finding → Statuses → Course CommandAnswer
repairs_said None findings said = gives (watched findings [])
repairs_said (Some p) findings said = repairs_by p findings (said p)

abbrev pub acts_said : Group → Seen → Statuses → List Finding → Course CommandAnswer
acts_said g seen said findings =
    if finds is_orphaned findings then heals findings (planned_course g plain)
    else if finds is_urgent findings then heals findings (emergency_course g forced)
    else if finds is_to_repair findings then repairs_said (recorded_alias seen.recorded) findings said
    else gives (watched findings [])
