-- What a course has decided stays, and a refused emergency has undone nothing.
use Rattle.std.proofs.Common.{◌≡◌, refl, ap, sym, ◌∙◌, Bool, true, false, List, [], map, Option, Some, None, Result, Ok, Err}
use Rattle.shard_calls.specs.declared.command.EmergencyOptions.{EmergencyOptions}
use Rattle.shard_calls.specs.declared.ending.CommandAnswer.{CommandAnswer}
use Rattle.shard_calls.specs.declared.ending.CommandAnswer.TheVariants as endings
use Rattle.shard_calls.specs.declared.group.Group.{Group}
use Rattle.shard_calls.specs.declared.refusal.Refusal.{Refusal}
use Rattle.shard_calls.specs.declared.span.Deed.{Deed}
use Rattle.courses.specs.declared.demands.Demand.{Demand}
use Rattle.courses.specs.declared.demands.Demand.TheVariants.{Does, Awaits, Leaves}
use Rattle.courses.specs.declared.want.Exit.{Exit}
use Rattle.courses.specs.declared.want.Exit.TheVariants as exits
use Rattle.courses.specs.Course.{demand, demand_by}
use Rattle.courses.specs.Walks.{Course}
use Rattle.courses.specs.Emergency.{emergency_course}
use Rattle.courses.specs.EmergencyLaws.{emergency_sound}
use Rattle.courses.specs.Ends.{EmergencyIsRefused, EmergencyEnds, Rescues, IsPromoted, Established}
use Rattle.courses.specs.Laws.{News, settle, is_waiting, IsStable}
use Rattle.courses.specs.Sound.{IsEnd, Comes}
use Rattle.recovery_loop.specs.CommandLaws.{course_stable}
use Rattle.recovery_loop.specs.Course.{course_of}
use Rattle.recovery_loop.specs.Decided.{LeavesForGood, EmergencyUndoesNothing}

-- ---- what is decided

not_waiting : (r : Result CommandAnswer Exit) (x : CommandAnswer) → demand_by r ≡ Leaves x → is_waiting r ≡ false
not_waiting (Ok e) x leaves = refl
not_waiting (Err (exits.Does want)) x leaves = absurd (let no_way : Does want ≡ Leaves x = leaves in cc)
not_waiting (Err exits.Waits) x leaves = absurd (let no_way : Awaits ≡ Leaves x = leaves in cc)
not_waiting (Err (exits.Refused r)) x leaves = refl
not_waiting (Err exits.Strays) x leaves = refl
not_waiting (Err exits.OutOfMemory) x leaves = refl

stays : (m : Course CommandAnswer) → IsStable m → (h : News) (span : List Deed) (x : CommandAnswer)
    → demand m span ≡ Leaves x → demand m (map (settle h) span) ≡ Leaves x
stays m stable h span x leaves = ap (λ v. demand_by v.came) (stable h span (not_waiting (m span).came x leaves)) ∙ leaves

pub leaves_for_good : LeavesForGood
leaves_for_good g command opening h span x leaves = stays (course_of g command opening) (course_stable g command opening) h span x leaves

-- ---- a refused emergency

abbrev undone_in : CommandAnswer → Option Bool
undone_in (endings.Refused r undone) = undone
undone_in _ = None

abbrev undone_of : Demand → Option Bool
undone_of (Leaves x) = undone_in x
undone_of _ = None

none_undone : (g : Group) (o : EmergencyOptions) (span : List Deed) (x : CommandAnswer) → EmergencyEnds g o span x → undone_in x ≡ None
none_undone g o span x (Rescues done called (Established c u p more took said recorded called_too told)) = refl

by_end : (g : Group) (o : EmergencyOptions) (span : List Deed) (r : Result CommandAnswer Exit) (rest : List Deed)
    → Comes g span (EmergencyIsRefused g o span) (EmergencyEnds g o span) r rest → undone_of (demand_by r) ≡ None
by_end g o span (Ok x) rest comes = none_undone g o span x comes.1
by_end g o span (Err (exits.Does want)) rest comes = refl
by_end g o span (Err exits.Waits) rest comes = refl
by_end g o span (Err (exits.Refused r)) rest comes = refl
by_end g o span (Err exits.Strays) rest comes = refl
by_end g o span (Err exits.OutOfMemory) rest comes = refl

pub emergency_undoes_nothing : EmergencyUndoesNothing
emergency_undoes_nothing g o span r tried leaves =
    sym (ap undone_of leaves)
    ∙ by_end g o span (emergency_course g o span).came (emergency_course g o span).rest
    (emergency_sound g o span span (record { before = []; split = refl }))
