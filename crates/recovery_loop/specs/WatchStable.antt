-- The course of a vtorc is stable. After VTOrc (Vitess manual, "VTOrc").
use Rattle.std.proofs.Common.{ℕ, List, [], ◌∷◌, ◌++◌, Option, Some, None, Result, Ok, Err}
use Rattle.shard_names.specs.declared.alias.Alias.{Alias}
use Rattle.gtid_sets.specs.Position.{Position}
use Rattle.shard_calls.specs.declared.analysis.Finding.{Finding}
use Rattle.shard_calls.specs.declared.analysis.Status.{Status}
use Rattle.shard_calls.specs.declared.call.Call.TheVariants as calls
use Rattle.shard_calls.specs.declared.ending.CommandAnswer.{CommandAnswer}
use Rattle.shard_calls.specs.declared.ending.Rest.{Rest}
use Rattle.shard_calls.specs.declared.ending.Rest.TheVariants as lines
use Rattle.shard_calls.specs.declared.event.Seen.{Seen}
use Rattle.shard_calls.specs.declared.group.Group.{Group}
use Rattle.shard_calls.specs.declared.refusal.Refusal.{Refusal}
use Rattle.shard_calls.specs.declared.span.Deed.{Deed}
use Rattle.shard_calls.specs.declared.stand.Stand.{Stand}
use Rattle.shard_calls.specs.declared.stand.Stand.TheVariants as stands
use Rattle.shard_calls.specs.Analysis.{finds, is_errant, is_orphaned, is_to_repair, is_urgent, to_repair}
use Rattle.shard_calls.specs.Causes.{findings_of, forced, joined_or_left, left_by, plain, statuses}
use Rattle.shard_calls.specs.Refusals.{recorded_alias}
use Rattle.courses.specs.Walks.{Course, tried, takes_lock}
use Rattle.courses.specs.Emergency.{emergency_course}
use Rattle.courses.specs.Planned.{planned_course}
use Rattle.courses.specs.Laws.{IsStable}
use Rattle.courses.specs.Stable.{pure_stable, bind_stable, if_stable, tried_stable, takes_stable, drains_stable, calls_once_stable, calls_stable}
use Rattle.courses.specs.PlannedStable.{planned_stable}
use Rattle.courses.specs.EmergencyLaws.{emergency_stable}
use Rattle.recovery_loop.specs.Watch.{watched, healed_by, heals, joins, marked, marks, repairs, line_then, repairs_all, repairs_under_lock, repairs_under, repairs_by, repairs_beside, acts_on, beside_record, of_record, watch_course}

heals_stable : (findings : List Finding) (m : Course CommandAnswer) → IsStable m → IsStable (heals findings m)
unfolding heals
heals_stable findings m ms = bind_stable _ _ (tried_stable m ms) (λ x. pure_stable (Ok (healed_by findings x)))

joins_stable : (p : Alias) (t : ℕ) (has : Position) (a : Alias) → IsStable (joins p t has a)
unfolding joins
joins_stable p t has a =
    bind_stable _ _ (calls_once_stable a (calls.SetSource p t has))
    (λ o. pure_stable {A = Result Rest Refusal} (Ok (Ok (joined_or_left p a (left_by o)))))

marks_stable : (a : Alias) → IsStable (marks a)
unfolding marks
marks_stable a = bind_stable _ _ (tried_stable _ (drains_stable a)) (λ x. pure_stable (Ok (marked a x)))

repairs_stable : (p : Alias) (t : ℕ) (has : Position) (f : Finding) → IsStable (repairs p t has f)
unfolding repairs
repairs_stable p t has f =
    if_stable (is_errant f.analysis) (marks f.alias) (joins p t has f.alias) (marks_stable f.alias) (joins_stable p t has f.alias)

line_stable : (findings : List Finding) (so_far : List Rest) (go_on : List Rest → Course CommandAnswer) → ((done : List Rest) → IsStable (go_on done))
    → (x : Result Rest Refusal) → IsStable (line_then findings so_far go_on x)
line_stable findings so_far go_on on (Ok line) = on (so_far ++ line ∷ [])
line_stable findings so_far go_on on (Err r) = pure_stable (Ok (watched findings (so_far ++ lines.Refused r None ∷ [])))

all_stable : (p : Alias) (t : ℕ) (has : Position) (findings due : List Finding) (so_far : List Rest)
    → IsStable (repairs_all p t has findings due so_far)
unfolding repairs_all
all_stable p t has findings [] so_far = pure_stable (Ok (watched findings so_far))
all_stable p t has findings (f ∷ more) so_far =
    bind_stable (repairs p t has f) (line_then findings so_far (repairs_all p t has findings more)) (repairs_stable p t has f)
    (line_stable findings so_far (repairs_all p t has findings more) (λ done. all_stable p t has findings more done))

lock_stable : (p : Alias) (t : ℕ) (has : Position) (findings : List Finding) (x : Result ℕ Refusal) → IsStable (repairs_under_lock p t has findings x)
lock_stable p t has findings (Ok u) = all_stable p t has findings (to_repair findings) []
lock_stable p t has findings (Err r) = pure_stable (Ok (watched findings (lines.Refused r None ∷ [])))

under_stable : (p : Alias) (stand : Stand) (has : Position) (findings : List Finding) → IsStable (repairs_under p stand has findings)
unfolding repairs_under
under_stable p (stands.Primary t) has findings =
    bind_stable (λ before. tried takes_lock before) _ (tried_stable takes_lock takes_stable) (λ x. lock_stable p t has findings x)
under_stable p _ has findings = pure_stable (Ok (watched findings []))

by_stable : (p : Alias) (findings : List Finding) (s : Option Status) → IsStable (repairs_by p findings s)
by_stable p findings None = pure_stable (Ok (watched findings []))
by_stable p findings (Some s) = under_stable p s.stand s.position findings

beside_stable : (p : Option Alias) (findings : List Finding) (done : List Deed) → IsStable (repairs_beside p findings done)
beside_stable None findings done = pure_stable (Ok (watched findings []))
beside_stable (Some p) findings done = by_stable p findings (statuses done p)

acts_stable : (g : Group) (seen : Seen) (done : List Deed) (findings : List Finding) → IsStable (acts_on g seen done findings)
unfolding acts_on
acts_stable g seen done findings =
    if_stable (finds is_orphaned findings) _ _ (heals_stable findings (planned_course g plain) (planned_stable g plain))
    (if_stable (finds is_urgent findings) _ _ (heals_stable findings (emergency_course g forced) (emergency_stable g forced))
    (if_stable (finds is_to_repair findings) _ _ (beside_stable (recorded_alias seen.recorded) findings done) (pure_stable (Ok (watched findings [])))))

pub watch_stable : (g : Group) (seen : Seen) → IsStable (watch_course g seen)
unfolding watch_course
watch_stable g seen =
    bind_stable _ _ (calls_stable (beside_record g (recorded_alias seen.recorded)) calls.Status)
    (λ those. bind_stable _ _ (calls_stable (of_record (recorded_alias seen.recorded)) calls.Status)
    (λ primary. acts_stable g seen (those ++ primary) (findings_of g seen (those ++ primary))))
