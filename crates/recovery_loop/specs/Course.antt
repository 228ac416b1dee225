-- The course of every command. Commands are those of vtctldclient and VTOrc (Vitess manual).
use Rattle.std.specs.Prelude.{map, Option, Some, None}
use Rattle.shard_names.specs.declared.alias.Alias.{Alias}
use Rattle.shard_calls.specs.declared.command.Command.{Command}
use Rattle.shard_calls.specs.declared.command.Command.TheVariants as commands
use Rattle.shard_calls.specs.declared.ending.CommandAnswer.{CommandAnswer}
use Rattle.shard_calls.specs.declared.ending.CommandAnswer.TheVariants as endings
use Rattle.shard_calls.specs.declared.group.Group.{Group}
use Rattle.shard_calls.specs.declared.state.Opening.{Opening}
use Rattle.shard_calls.specs.declared.state.Shown.{Shown}
use Rattle.shard_calls.specs.Causes.{row_of}
use Rattle.shard_calls.specs.Commands.{emergency_with, planned_with}
use Rattle.shard_calls.specs.Stands.{standing_of}
use Rattle.courses.specs.declared.want.Exit.TheVariants as exits
use Rattle.courses.specs.Walks.{Course, gives, stops}
use Rattle.courses.specs.Planned.{planned_course}
use Rattle.courses.specs.Emergency.{emergency_course}
use Rattle.courses.specs.External.{external_course}
use Rattle.courses.specs.Writing.{write_course, show_course}
use Rattle.recovery_loop.specs.Watch.{watch_course}

-- a show shows what its opening has; where that has nothing to show, nothing that was done is of its course
abbrev pub shows : Alias → Option Shown → Course CommandAnswer
shows a None = stops exits.Strays
shows a (Some x) = show_course a (standing_of x.stand) x.position

-- the course of a command of this group, right after the beginning of which this stood
unfoldable pub course_of : Group → Command → Opening → Course CommandAnswer
course_of g (commands.Planned shard new_primary avoid expected timeout crossing) opening =
    planned_course g (planned_with new_primary avoid expected timeout crossing)
course_of g (commands.Emergency shard new_primary ignored expected timeout preventing) opening =
    emergency_course g (emergency_with new_primary ignored expected timeout preventing)
course_of g (commands.External a) opening = external_course g a
course_of g commands.Vtorc opening = watch_course g opening.seen
course_of g (commands.Write to) opening = write_course to opening.seen.recorded
course_of g (commands.Show a) opening = shows a opening.shown
course_of g (commands.GetShard shard) opening = gives (endings.Shard shard opening.seen.recorded)
course_of g (commands.GetTablets shard) opening = gives (endings.Tablets (map (row_of opening.seen) g.tablets))
