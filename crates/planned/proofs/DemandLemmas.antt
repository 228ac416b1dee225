-- Where the course of any command halts, and what it waits for there.
use Rattle.std.proofs.Common.{◌≡◌, List, true, Result, Ok, Err, map}
use Rattle.std.specs.List.{list_any}
use Rattle.std.specs.Prelude.{⊤}
use Rattle.shard_calls.specs.declared.command.Command.{Command}
use Rattle.shard_calls.specs.declared.command.Command.TheVariants as commands
use Rattle.shard_calls.specs.declared.ending.CommandAnswer.{CommandAnswer}
use Rattle.shard_calls.specs.declared.ending.CommandAnswer.TheVariants as endings
use Rattle.shard_calls.specs.declared.group.Group.{Group}
use Rattle.shard_calls.specs.declared.span.Deed.{Deed}
use Rattle.shard_calls.specs.declared.state.Opening.{Opening}
use Rattle.shard_calls.specs.Causes.{row_of}
use Rattle.shard_calls.specs.Commands.{emergency_with, planned_with}
use Rattle.courses.specs.declared.demands.Demand.{Demand}
use Rattle.courses.specs.declared.demands.Demand.TheVariants as demands
use Rattle.courses.specs.declared.want.Exit.{Exit}
use Rattle.courses.specs.declared.want.Exit.TheVariants as exits
use Rattle.courses.specs.Walks.{Walked, is_out}
use Rattle.courses.specs.Course.{demand, demand_by}
use Rattle.recovery_loop.specs.Course.{course_of}
use Rattle.planned.proofs.HaltLemmas.{HaltsTo, Comes, Halts}
use Rattle.planned.proofs.CourseLemmas.{gives_halts, planned_halts, emergency_halts, external_halts, write_halts, shows_halts}
use Rattle.planned.proofs.WatchLemmas.{watch_halts}

-- ---- any command

course_halts : (span : List Deed) (g : Group) (command : Command) (opening : Opening) → Halts span (course_of g command opening)
unfolding course_of
course_halts span g (commands.Planned shard new_primary avoid expected timeout crossing) opening = planned_halts span g (planned_with new_primary avoid expected timeout crossing)
course_halts span g (commands.Emergency shard new_primary ignored expected timeout preventing) opening =
    emergency_halts span g (emergency_with new_primary ignored expected timeout preventing)
course_halts span g (commands.External a) opening = external_halts span g a
course_halts span g commands.Vtorc opening = watch_halts span g opening.seen
course_halts span g (commands.Write to) opening = write_halts span to opening.seen.recorded
course_halts span g (commands.Show a) opening = shows_halts span a opening.shown
course_halts span g (commands.GetShard shard) opening = gives_halts span (endings.Shard shard opening.seen.recorded)
course_halts span g (commands.GetTablets shard) opening = gives_halts span (endings.Tablets (map (row_of opening.seen) g.tablets))

-- ---- what a command waits for

-- what the demand waits for is in the span
abbrev pub WaitsFor : List Deed → Demand → Type 0
WaitsFor span (demands.Does want) = HaltsTo span want
WaitsFor span demands.Awaits = list_any is_out span ≡ true
WaitsFor span (demands.Leaves x) = ⊤

demand_waits : (span : List Deed) (came : Result CommandAnswer Exit) (rest : List Deed) → Comes span came rest → WaitsFor span (demand_by came)
demand_waits span (Ok x) rest comes = tt
demand_waits span (Err (exits.Does want)) rest comes = comes
demand_waits span (Err exits.Waits) rest comes = comes
demand_waits span (Err (exits.Refused r)) rest comes = tt
demand_waits span (Err exits.Strays) rest comes = tt
demand_waits span (Err exits.OutOfMemory) rest comes = tt

pub waits_for : (span : List Deed) (g : Group) (command : Command) (opening : Opening) → WaitsFor span (demand (course_of g command opening) span)
waits_for span g command opening =
    let w : Walked CommandAnswer = course_of g command opening span in
    demand_waits span w.came w.rest (course_halts span g command opening span (λ p h. h))
