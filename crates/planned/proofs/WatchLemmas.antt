-- Where the course of a vtorc halts.
use Rattle.std.proofs.Common.{ℕ, List, [], ◌∷◌, ◌++◌, Option, Some, None, Result, Ok, Err}
use Rattle.shard_names.specs.declared.alias.Alias.{Alias}
use Rattle.gtid_sets.specs.Position.{Position}
use Rattle.shard_calls.specs.declared.analysis.Finding.{Finding}
use Rattle.shard_calls.specs.declared.analysis.Status.{Status}
use Rattle.shard_calls.specs.declared.call.Call.TheVariants as calls
use Rattle.shard_calls.specs.declared.ending.CommandAnswer.{CommandAnswer}
use Rattle.shard_calls.specs.declared.ending.Rest.{Rest}
use Rattle.shard_calls.specs.declared.ending.Rest.TheVariants as lines
use Rattle.shard_calls.specs.declared.event.Seen.{Seen}
use Rattle.shard_calls.specs.declared.group.Group.{Group}
use Rattle.shard_calls.specs.declared.refusal.Refusal.{Refusal}
use Rattle.shard_calls.specs.declared.span.Deed.{Deed}
use Rattle.shard_calls.specs.declared.stand.Stand.{Stand}
use Rattle.shard_calls.specs.declared.stand.Stand.TheVariants as stands
use Rattle.shard_calls.specs.Analysis.{finds, is_errant, is_orphaned, is_to_repair, is_urgent, to_repair}
use Rattle.shard_calls.specs.Causes.{findings_of, forced, joined_or_left, left_by, plain, statuses}
use Rattle.shard_calls.specs.Refusals.{recorded_alias}
use Rattle.courses.specs.Walks.{Course, tried, takes_lock}
use Rattle.courses.specs.Planned.{planned_course}
use Rattle.courses.specs.Emergency.{emergency_course}
use Rattle.recovery_loop.specs.Watch.{watched, healed_by, heals, joins, marked, marks, repairs, line_then, repairs_all, repairs_under_lock, repairs_under, repairs_by, repairs_beside, acts_on, beside_record, of_record, watch_course}
use Rattle.planned.proofs.HaltLemmas.{Halts, bind_halts, if_halts, tried_halts, takes_halts, drains_halts, calls_once_halts, calls_all_halts}
use Rattle.planned.proofs.CourseLemmas.{gives_halts, planned_halts, emergency_halts}

-- ---- a whole reparent inside

heals_halts : (span : List Deed) (findings : List Finding) (m : Course CommandAnswer) → Halts span m → Halts span (heals findings m)
unfolding heals
heals_halts span findings m ms = bind_halts span _ _ (tried_halts span m ms) (λ x. gives_halts span (healed_by findings x))

-- ---- repairs

joins_halts : (span : List Deed) (p : Alias) (t : ℕ) (has : Position) (a : Alias) → Halts span (joins p t has a)
unfolding joins
joins_halts span p t has a =
    bind_halts span _ _ (calls_once_halts span a (calls.SetSource p t has)) (λ o. gives_halts {A = Result Rest Refusal} span (Ok (joined_or_left p a (left_by o))))

marks_halts : (span : List Deed) (a : Alias) → Halts span (marks a)
unfolding marks
marks_halts span a = bind_halts span _ _ (tried_halts span _ (drains_halts span a)) (λ x. gives_halts span (marked a x))

repairs_halts : (span : List Deed) (p : Alias) (t : ℕ) (has : Position) (f : Finding) → Halts span (repairs p t has f)
unfolding repairs
repairs_halts span p t has f =
    if_halts span (is_errant f.analysis) (marks f.alias) (joins p t has f.alias) (marks_halts span f.alias) (joins_halts span p t has f.alias)

line_halts : (span : List Deed) (findings : List Finding) (so_far : List Rest) (go_on : List Rest → Course CommandAnswer) → ((done : List Rest) → Halts span (go_on done))
    → (x : Result Rest Refusal) → Halts span (line_then findings so_far go_on x)
line_halts span findings so_far go_on on (Ok line) = on (so_far ++ line ∷ [])
line_halts span findings so_far go_on on (Err r) = gives_halts span (watched findings (so_far ++ lines.Refused r None ∷ []))

all_halts : (span : List Deed) (p : Alias) (t : ℕ) (has : Position) (findings these : List Finding) (so_far : List Rest)
    → Halts span (repairs_all p t has findings these so_far)
unfolding repairs_all
all_halts span p t has findings [] so_far = gives_halts span (watched findings so_far)
all_halts span p t has findings (f ∷ more) so_far =
    bind_halts span (repairs p t has f) (line_then findings so_far (repairs_all p t has findings more)) (repairs_halts span p t has f)
    (line_halts span findings so_far (repairs_all p t has findings more) (λ done. all_halts span p t has findings more done))

locked_halts : (span : List Deed) (p : Alias) (t : ℕ) (has : Position) (findings : List Finding) (x : Result ℕ Refusal)
    → Halts span (repairs_under_lock p t has findings x)
locked_halts span p t has findings (Ok u) = all_halts span p t has findings (to_repair findings) []
locked_halts span p t has findings (Err r) = gives_halts span (watched findings (lines.Refused r None ∷ []))

under_halts : (span : List Deed) (p : Alias) (stand : Stand) (has : Position) (findings : List Finding) → Halts span (repairs_under p stand has findings)
unfolding repairs_under
under_halts span p (stands.Primary t) has findings =
    bind_halts span (tried takes_lock) (repairs_under_lock p t has findings) (tried_halts span takes_lock (takes_halts span)) (locked_halts span p t has findings)
under_halts span p stands.Down has findings = gives_halts span (watched findings [])
under_halts span p stands.Stopped has findings = gives_halts span (watched findings [])
under_halts span p (stands.Demoted t by) has findings = gives_halts span (watched findings [])
under_halts span p (stands.Replica source t at) has findings = gives_halts span (watched findings [])
under_halts span p (stands.Feeder t) has findings = gives_halts span (watched findings [])

by_halts : (span : List Deed) (p : Alias) (findings : List Finding) (o : Option Status) → Halts span (repairs_by p findings o)
by_halts span p findings None = gives_halts span (watched findings [])
by_halts span p findings (Some s) = under_halts span p s.stand s.position findings

beside_halts : (span : List Deed) (o : Option Alias) (findings : List Finding) (done : List Deed) → Halts span (repairs_beside o findings done)
beside_halts span None findings done = gives_halts span (watched findings [])
beside_halts span (Some p) findings done = by_halts span p findings (statuses done p)

-- ---- the course

acts_halts : (span : List Deed) (g : Group) (seen : Seen) (done : List Deed) (findings : List Finding) → Halts span (acts_on g seen done findings)
unfolding acts_on
acts_halts span g seen done findings =
    if_halts span (finds is_orphaned findings) _ _ (heals_halts span findings (planned_course g plain) (planned_halts span g plain))
    (if_halts span (finds is_urgent findings) _ _ (heals_halts span findings (emergency_course g forced) (emergency_halts span g forced))
    (if_halts span (finds is_to_repair findings) _ _ (beside_halts span (recorded_alias seen.recorded) findings done) (gives_halts span (watched findings []))))

pub watch_halts : (span : List Deed) (g : Group) (seen : Seen) → Halts span (watch_course g seen)
unfolding watch_course
watch_halts span g seen =
    bind_halts span _ _ (calls_all_halts span (beside_record g (recorded_alias seen.recorded)) calls.Status)
    (λ those.
    bind_halts span _ _ (calls_all_halts span (of_record (recorded_alias seen.recorded)) calls.Status)
    (λ primary. acts_halts span g seen (those ++ primary) (findings_of g seen (those ++ primary))))
