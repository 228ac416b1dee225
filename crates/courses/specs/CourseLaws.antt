-- The laws of the courses: those of PlannedReparentShard, EmergencyReparentShard and TabletExternallyReparented (Vitess manual), of writes and of
-- shows. What comes of calls later changes nothing once a course does not wait; a tablet is asked to be the primary only with evidence; and each answer has
-- its cause in what the command did.
use Rattle.std.specs.Prelude.{List, Option, ◌≡◌}
use Rattle.shard_names.specs.declared.alias.Alias.{Alias}
use Rattle.gtid_sets.specs.Position.{Position}
use Rattle.topo_lock.specs.declared.intent.Record.{Record}
use Rattle.shard_calls.specs.declared.stand.Standing.{Standing}
use Rattle.shard_calls.specs.declared.group.Group.{Group}
use Rattle.shard_calls.specs.declared.command.EmergencyOptions.{EmergencyOptions}
use Rattle.shard_calls.specs.declared.command.PlannedOptions.{PlannedOptions}
use Rattle.shard_calls.specs.declared.span.Deed.{Deed}
use Rattle.courses.specs.Planned.{planned_course}
use Rattle.courses.specs.Emergency.{emergency_course}
use Rattle.courses.specs.External.{external_course}
use Rattle.courses.specs.Writing.{write_course, show_course, shown_by}
use Rattle.courses.specs.Laws.{IsStable}
use Rattle.courses.specs.Sound.{IsSound}
use Rattle.courses.specs.Ends.{PlannedIsRefused, PlannedEnds, EmergencyIsRefused, EmergencyEnds, ExternalIsRefused, ExternalEnds, WriteEnds}

abbrev pub PlannedIsStable : Type 0
PlannedIsStable = (g : Group) (o : PlannedOptions) → IsStable (planned_course g o)

abbrev pub PlannedIsSound : Type 0
PlannedIsSound = (g : Group) (o : PlannedOptions) (span : List Deed)
    → IsSound g span (PlannedIsRefused g o span) (planned_course g o) (PlannedEnds g o span)

abbrev pub EmergencyIsStable : Type 0
EmergencyIsStable = (g : Group) (o : EmergencyOptions) → IsStable (emergency_course g o)

abbrev pub EmergencyIsSound : Type 0
EmergencyIsSound = (g : Group) (o : EmergencyOptions) (span : List Deed)
    → IsSound g span (EmergencyIsRefused g o span) (emergency_course g o) (EmergencyEnds g o span)

abbrev pub ExternalIsStable : Type 0
ExternalIsStable = (g : Group) (a : Alias) → IsStable (external_course g a)

abbrev pub ExternalIsSound : Type 0
ExternalIsSound = (g : Group) (a : Alias) (span : List Deed) → IsSound g span (ExternalIsRefused g a span) (external_course g a) (ExternalEnds a span)

abbrev pub WriteIsStable : Type 0
WriteIsStable = (to : Option Alias) (recorded : Option Record) → IsStable (write_course to recorded)

-- a write is never refused by its course
abbrev pub WriteIsSound : Type 0
WriteIsSound = (to : Option Alias) (recorded : Option Record) (g : Group) (span : List Deed)
    → IsSound g span (λ r. ⊥) (write_course to recorded) (WriteEnds to recorded span)

abbrev pub ShowIsStable : Type 0
ShowIsStable = (a : Alias) (stand : Standing) (p : Position) → IsStable (show_course a stand p)

-- nor is a show, which ends with what stood
abbrev pub ShowIsSound : Type 0
ShowIsSound = (a : Alias) (stand : Standing) (p : Position) (g : Group) (span : List Deed)
    → IsSound g span (λ r. ⊥) (show_course a stand p) (λ x. x ≡ shown_by a stand p)
