-- The course of every command is stable, and what it demands is founded. Commands are those of vtctldclient and VTOrc (Vitess
-- manual).
use Rattle.std.proofs.Common.{List, Option, Some, None, Ok, Err}
use Rattle.std.specs.Prelude.{⊤}
use Rattle.shard_names.specs.declared.alias.Alias.{Alias}
use Rattle.shard_calls.specs.declared.command.Command.{Command}
use Rattle.shard_calls.specs.declared.command.Command.TheVariants as commands
use Rattle.shard_calls.specs.declared.group.Group.{Group}
use Rattle.shard_calls.specs.declared.span.Deed.{Deed}
use Rattle.shard_calls.specs.declared.state.Opening.{Opening}
use Rattle.shard_calls.specs.declared.state.Shown.{Shown}
use Rattle.shard_calls.specs.Commands.{emergency_with, planned_with}
use Rattle.shard_calls.specs.Stands.{standing_of}
use Rattle.courses.specs.declared.want.Exit.TheVariants as exits
use Rattle.courses.specs.Laws.{IsStable}
use Rattle.courses.specs.Stable.{pure_stable}
use Rattle.courses.specs.PlannedStable.{planned_stable}
use Rattle.courses.specs.Sound.{IsSound}
use Rattle.courses.specs.SoundLemmas.{founded_alone}
use Rattle.courses.specs.PlannedSound.{planned_sound}
use Rattle.courses.specs.EmergencyLaws.{emergency_stable, emergency_sound}
use Rattle.courses.specs.ExternalLaws.{external_stable, external_sound}
use Rattle.courses.specs.WritingLaws.{write_stable, write_sound, show_stable, show_sound}
use Rattle.recovery_loop.specs.Course.{course_of, shows}
use Rattle.recovery_loop.specs.WatchStable.{watch_stable}
use Rattle.recovery_loop.specs.WatchSound.{watch_sound}

shows_stable : (a : Alias) (shown : Option Shown) → IsStable (shows a shown)
shows_stable a None = pure_stable (Err exits.Strays)
shows_stable a (Some x) = show_stable a (standing_of x.stand) x.position

pub course_stable : (g : Group) (command : Command) (opening : Opening) → IsStable (course_of g command opening)
unfolding course_of
course_stable g (commands.Planned shard new_primary avoid expected timeout crossing) opening =
    planned_stable g (planned_with new_primary avoid expected timeout crossing)
course_stable g (commands.Emergency shard new_primary ignored expected timeout preventing) opening =
    emergency_stable g (emergency_with new_primary ignored expected timeout preventing)
course_stable g (commands.External a) opening = external_stable g a
course_stable g commands.Vtorc opening = watch_stable g opening.seen
course_stable g (commands.Write to) opening = write_stable to opening.seen.recorded
course_stable g (commands.Show a) opening = shows_stable a opening.shown
course_stable g (commands.GetShard shard) opening = pure_stable (Ok _)
course_stable g (commands.GetTablets shard) opening = pure_stable (Ok _)

shows_founded : (g : Group) (a : Alias) (shown : Option Shown) (span : List Deed) → IsSound g span (λ r. ⊤) (shows a shown) (λ x. ⊤)
shows_founded g a None span = λ rest end. tt
shows_founded g a (Some x) span = founded_alone g span _ _ _ (show_sound a (standing_of x.stand) x.position g span)

pub course_founded : (g : Group) (command : Command) (opening : Opening) (span : List Deed)
    → IsSound g span (λ r. ⊤) (course_of g command opening) (λ x. ⊤)
unfolding course_of
course_founded g (commands.Planned shard new_primary avoid expected timeout crossing) opening span =
    founded_alone g span _ _ _ (planned_sound g (planned_with new_primary avoid expected timeout crossing) span)
course_founded g (commands.Emergency shard new_primary ignored expected timeout preventing) opening span =
    founded_alone g span _ _ _ (emergency_sound g (emergency_with new_primary ignored expected timeout preventing) span)
course_founded g (commands.External a) opening span = founded_alone g span _ _ _ (external_sound g a span)
course_founded g commands.Vtorc opening span = founded_alone g span _ _ _ (watch_sound g opening.seen span)
course_founded g (commands.Write to) opening span = founded_alone g span _ _ _ (write_sound to opening.seen.recorded g span)
course_founded g (commands.Show a) opening span = shows_founded g a opening.shown span
course_founded g (commands.GetShard shard) opening span = λ rest end. (end, tt)
course_founded g (commands.GetTablets shard) opening span = λ rest end. (end, tt)
