-- The course of PlannedReparentShard (Vitess manual) asks a tablet to be the primary only with evidence, and each of its answers has its cause.
use Rattle.std.proofs.Common.{◌≡◌, refl, subst, ℕ, Bool, true, false, ◌==◌, cond, List, Option, Some, None, Result, Ok, Err}
use Rattle.std.specs.Prelude.{⊤}
use Rattle.std.specs.List.{flat_map}
use Rattle.shard_names.specs.declared.alias.Alias.{Alias}
use Rattle.shard_names.specs.Tablets.{alias_eq}
use Rattle.gtid_sets.specs.Position.{Position, nothing}
use Rattle.topo_lock.specs.declared.intent.Intent.{Intent}
use Rattle.shard_calls.specs.declared.answer.Answer.{Answer}
use Rattle.shard_calls.specs.declared.answer.Answer.TheVariants as says
use Rattle.shard_calls.specs.declared.call.Call.TheVariants as calls
use Rattle.shard_calls.specs.declared.ending.CommandAnswer.TheVariants as endings
use Rattle.shard_calls.specs.declared.event.Seen.{Seen}
use Rattle.shard_calls.specs.declared.refusal.Refusal.{Refusal}
use Rattle.shard_calls.specs.declared.span.Kind.TheVariants as kinds
use Rattle.shard_calls.specs.declared.group.Group.{Group}
use Rattle.shard_calls.specs.declared.command.PlannedOptions.{PlannedOptions}
use Rattle.shard_calls.specs.declared.span.Deed.{Deed}
use Rattle.courses.specs.declared.want.Exit.TheVariants as exits
use Rattle.shard_calls.specs.Refusals.{refusal_by_demoted, refusal_of_crossing, refusal_of_planned, refusal_by_seen}
use Rattle.shard_calls.specs.Causes.{is_idle, not_joined}
use Rattle.shard_calls.specs.Choosing.{candidates, first_of, follower}
use Rattle.courses.specs.Walks.{walked, gives, unless, takes_lock}
use Rattle.courses.specs.Promoting.{established, promotes, reparents, others_than, promoted_position, told_so}
use Rattle.courses.specs.Planned.{first_primary, successor, demoted_position, following, holding, demotes, catches_up, undone_by, undoes, reparents_all, replaced_by, replaces, reparents_from, reparents_by, planned_course}
use Rattle.courses.specs.Sound.{IsTaken, IsRead, IsRecorded, IsIntended, IsSaid, AreCalled, Ground, First, Demoted, IsSound}
use Rattle.courses.specs.SoundLemmas.{gives_sound, bind_sound, then_sound, if_sound, weaker_sound, with_sound, unless_sound, chosen_sound, IsTried, tried_sound, Bars, Refuses, takes_sound, reads_sound, intends_sound, records_sound, needs_sound, calls_sound}
use Rattle.courses.specs.Ends.{IsPromoted, Established, CannotPromote, LostLock, ByPromote, CannotCatchUp, BySetSource, ByWaitFor, PlannedIsRefused, AtOnce, ByTopology, BySeen, NoFirst, Crossing, NoFollower, ByDemote, IsPending, ByPromotion, PlannedEnds, Promotes, Nothing, Undone, NotUndone}

abbrev Any : {A : Type 0} → A → Type 0
Any x = ⊤

-- ---- what single answers say

promoted_sound : (g : Group) (span : List Deed) (R : Refusal → Type 0) (x : Answer) → IsSound g span R (walked (promoted_position x)) (λ p. x ≡ says.Promoted p)
promoted_sound g span R (says.Promoted p) rest end = (end, refl)
promoted_sound g span R _ rest end = tt

told_sound : (g : Group) (span : List Deed) (R : Refusal → Type 0) (x : Answer) → IsSound g span R (walked (told_so x)) (λ y. x ≡ says.Told)
told_sound g span R says.Told rest end = (end, refl)
told_sound g span R _ rest end = tt

pub following_sound : (g : Group) (span : List Deed) (R : Refusal → Type 0) (x : Answer) → IsSound g span R (walked (following x)) Any
following_sound g span R says.Joined rest end = (end, tt)
following_sound g span R (says.Kept stand) rest end = (end, tt)
following_sound g span R (says.PromisedAhead promised) rest end = (end, tt)
following_sound g span R _ rest end = tt

pub holding_sound : (g : Group) (span : List Deed) (R : Refusal → Type 0) (x : Answer) → IsSound g span R (walked (holding x)) Any
holding_sound g span R says.Holds rest end = (end, tt)
holding_sound g span R _ rest end = tt

said_with : (span : List Deed) (a : Alias) (x y : Answer) → IsSaid span a kinds.Promote x → x ≡ y → IsSaid span a kinds.Promote y
said_with span a x y said same = subst (λ z. IsSaid span a kinds.Promote z) same said

-- ---- points 8 to 12

established_sound : (g : Group) (span : List Deed) (R : Refusal → Type 0) (timeout : ℕ) (others : Alias → List Alias) (u : ℕ) (c : Alias) (p : Position)
    → IsTaken span u → IsSaid span c kinds.Promote (says.Promoted p) → Bars span R → Refuses span R c kinds.WaitTold
    → IsSound g span R (established timeout (others c) u c p) (IsPromoted span others)
unfolding established
established_sound g span R timeout others u c p took said bars refuses =
    bind_sound g span R (λ done. IsRecorded span c × AreCalled span (others c) kinds.SetSource done) (IsPromoted span others) _ _
    (then_sound g span R (λ x. IsRecorded span c) (λ done. IsRecorded span c × AreCalled span (others c) kinds.SetSource done) _ _ (records_sound g span R c bars)
    (λ x is. with_sound g span R (IsRecorded span c) (λ done. AreCalled span (others c) kinds.SetSource done) _ is (calls_sound g span R (others c) (calls.SetSource c u p) (λ a. tt))))
    (λ done both. bind_sound g span R (λ y. IsSaid span c kinds.WaitTold y) (IsPromoted span others) _ _ (needs_sound g span R c (calls.WaitTold timeout) tt refuses)
    (λ y heard. then_sound g span R (λ z. y ≡ says.Told) (IsPromoted span others) _ _ (told_sound g span R y)
    (λ z told. gives_sound g span R (IsPromoted span others) (endings.Promoted c u (flat_map not_joined done))
    (Established c u p done took said both.0 both.1 (subst (λ w. IsSaid span c kinds.WaitTold w) told heard)))))

promotes_sound : (g : Group) (span : List Deed) (R : Refusal → Type 0) (c : Alias) (p : Position) → Ground g span p → Bars span R → Refuses span R c kinds.Promote
    → IsSound g span R (promotes c p) (λ q. IsSaid span c kinds.Promote (says.Promoted q))
unfolding promotes
promotes_sound g span R c p basis bars refuses =
    bind_sound g span R (λ y. IsSaid span c kinds.Promote y) (λ q. IsSaid span c kinds.Promote (says.Promoted q)) _ _
    (then_sound g span R (λ x. IsIntended span c) (λ y. IsSaid span c kinds.Promote y) _ _ (intends_sound g span R c bars)
    (λ x intended. needs_sound g span R c (calls.Promote p) (record { intended = intended; basis = basis }) refuses))
    (λ y said. weaker_sound g span R R (λ q. y ≡ says.Promoted q) _ _ (λ r cause. cause) (λ q same. said_with span c y (says.Promoted q) said same) (promoted_sound g span R y))

pub reparents_sound : (g : Group) (span : List Deed) (R : Refusal → Type 0) (timeout : ℕ) (others : Alias → List Alias) (u : ℕ) (c : Alias) (p : Position)
    → IsTaken span u → Ground g span p → Bars span R → Refuses span R c kinds.Promote → Refuses span R c kinds.WaitTold
    → IsSound g span R (reparents timeout (others c) u c p) (IsPromoted span others)
unfolding reparents
reparents_sound g span R timeout others u c p took basis bars by_promote by_wait =
    bind_sound g span R (λ q. IsSaid span c kinds.Promote (says.Promoted q)) (IsPromoted span others) _ _ (promotes_sound g span R c p basis bars by_promote)
    (λ q said. established_sound g span R timeout others u c q took said bars by_wait)

-- ---- of a planned reparent

all_sound : (g : Group) (o : PlannedOptions) (span : List Deed) (timeout u : ℕ) (c : Alias) (p : Position) → IsTaken span u → Ground g span p
    → IsSound g span (PlannedIsRefused g o span) (reparents_all g timeout u c p) (PlannedEnds g o span)
unfolding reparents_all
all_sound g o span timeout u c p took basis =
    weaker_sound g span (PlannedIsRefused g o span) (PlannedIsRefused g o span) (IsPromoted span (others_than g)) (PlannedEnds g o span) _
    (λ r cause. cause) (λ x is. Promotes x is)
    (reparents_sound g span (PlannedIsRefused g o span) timeout (others_than g) u c p took basis (λ r bar. ByTopology bar)
    (λ r refused. ByPromotion c kinds.Promote refl refused) (λ r refused. ByPromotion c kinds.WaitTold refl refused))

given_sound : (g : Group) (o : PlannedOptions) (span : List Deed) (seen : Seen) (i : Intent) (c : Alias) → IsRead span seen → seen.intent ≡ Some i → o.new_primary ≡ Some c
    → IsSound g span (PlannedIsRefused g o span) (successor g o.allow_cross_cell seen i.alias (Some c)) Any
unfolding successor
given_sound g o span seen i c is last given =
    then_sound g span (PlannedIsRefused g o span) (λ x. refusal_of_crossing o.allow_cross_cell i.alias c ≡ None) Any (unless (refusal_of_crossing o.allow_cross_cell i.alias c)) (gives c)
    (unless_sound g span (PlannedIsRefused g o span) (refusal_of_crossing o.allow_cross_cell i.alias c) (λ r refused. Crossing seen i c is last given refused))
    (λ x q. gives_sound g span (PlannedIsRefused g o span) Any c tt)

asked_sound : (g : Group) (o : PlannedOptions) (span : List Deed) (seen : Seen) (i : Intent) → IsRead span seen → seen.intent ≡ Some i → o.new_primary ≡ None
    → IsSound g span (PlannedIsRefused g o span) (successor g o.allow_cross_cell seen i.alias None) Any
unfolding successor
asked_sound g o span seen i is last none =
    bind_sound g span (PlannedIsRefused g o span) (λ done. AreCalled span (candidates g o.allow_cross_cell seen i.alias) kinds.Status done) Any _ _
    (calls_sound g span (PlannedIsRefused g o span) (candidates g o.allow_cross_cell seen i.alias) calls.Status (λ a. tt))
    (λ done called. weaker_sound g span (PlannedIsRefused g o span) (PlannedIsRefused g o span) (λ c. follower g o.allow_cross_cell seen i.alias done ≡ Ok c) Any _
    (λ r cause. cause) (λ c same. tt)
    (chosen_sound g span (PlannedIsRefused g o span) (follower g o.allow_cross_cell seen i.alias done) (λ r refused. NoFollower seen i done is last none called refused)))

successor_sound : (g : Group) (o : PlannedOptions) (span : List Deed) (seen : Seen) (i : Intent) (given : Option Alias) → IsRead span seen → seen.intent ≡ Some i → o.new_primary ≡ given
    → IsSound g span (PlannedIsRefused g o span) (successor g o.allow_cross_cell seen i.alias given) Any
successor_sound g o span seen i (Some c) is last given = given_sound g o span seen i c is last given
successor_sound g o span seen i None is last given = asked_sound g o span seen i is last given

-- the answer to a Demote by which it goes on is that of a tablet that has the intent's row, and nothing newer
demoted_at : (g : Group) (span : List Deed) (R : Refusal → Type 0) (seen : Seen) (i : Intent) (newest : ℕ) (p : Position) (b : Bool) → (newest == i.term) ≡ b → IsRead span seen
    → seen.intent ≡ Some i → IsSaid span i.alias kinds.Demote (says.Demoted newest p) → IsSound g span R (walked (cond b (Ok p) (Err exits.Strays))) (λ q. Ground g span q)
demoted_at g span R seen i newest p true same is last said rest end = (end, Demoted seen i newest is last said same)
demoted_at g span R seen i newest p false same is last said rest end = tt

demoted_sound : (g : Group) (span : List Deed) (R : Refusal → Type 0) (seen : Seen) (i : Intent) (x : Answer) → IsRead span seen → seen.intent ≡ Some i
    → IsSaid span i.alias kinds.Demote x → IsSound g span R (walked (demoted_position i x)) (λ p. Ground g span p)
demoted_sound g span R seen i (says.Demoted newest p) is last said = demoted_at g span R seen i newest p (newest == i.term) refl is last said
demoted_sound g span R seen i _ is last said = λ rest end. tt

demotes_sound : (g : Group) (o : PlannedOptions) (span : List Deed) (seen : Seen) (i : Intent) → IsRead span seen → seen.intent ≡ Some i
    → IsSound g span (PlannedIsRefused g o span) (demotes i) (λ p. Ground g span p)
unfolding demotes
demotes_sound g o span seen i is last =
    bind_sound g span (PlannedIsRefused g o span) (λ x. IsSaid span i.alias kinds.Demote x) (λ p. Ground g span p) _ _
    (needs_sound g span (PlannedIsRefused g o span) i.alias calls.Demote tt (λ r refused. ByDemote seen i is last refused))
    (λ x said. then_sound g span (PlannedIsRefused g o span) (λ y. refusal_by_demoted i x ≡ None) (λ p. Ground g span p) _ _
    (unless_sound g span (PlannedIsRefused g o span) (refusal_by_demoted i x) (λ r refused. IsPending seen i x is last said refused))
    (λ y none. demoted_sound g span (PlannedIsRefused g o span) seen i x is last said))

catches_sound : (g : Group) (span : List Deed) (timeout : ℕ) (i : Intent) (c : Alias) (p : Position) → IsSound g span (CannotCatchUp span c) (catches_up timeout i c p) Any
unfolding catches_up
catches_sound g span timeout i c p =
    bind_sound g span (CannotCatchUp span c) (λ x. IsSaid span c kinds.SetSource x) Any _ _
    (needs_sound g span (CannotCatchUp span c) c (calls.SetSource i.alias i.term p) tt (λ r refused. BySetSource refused))
    (λ x said. bind_sound g span (CannotCatchUp span c) (λ y. IsSaid span c kinds.WaitFor y) Any _ _
    (then_sound g span (CannotCatchUp span c) Any (λ y. IsSaid span c kinds.WaitFor y) _ _ (following_sound g span (CannotCatchUp span c) x)
    (λ z any. needs_sound g span (CannotCatchUp span c) c (calls.WaitFor p timeout) tt (λ r refused. ByWaitFor refused)))
    (λ y heard. holding_sound g span (CannotCatchUp span c) y))

undone_sound : (g : Group) (o : PlannedOptions) (span : List Deed) (timeout u : ℕ) (seen : Seen) (i : Intent) (c : Alias) (r : Refusal) (q : Result Position Refusal)
    → IsTaken span u → IsRead span seen → seen.intent ≡ Some i → CannotCatchUp span c r
    → IsTried (CannotPromote span i.alias) (λ p. IsSaid span i.alias kinds.Promote (says.Promoted p)) q
    → IsSound g span (PlannedIsRefused g o span) (undone_by g timeout u i.alias r q) (PlannedEnds g o span)
unfolding undone_by
undone_sound g o span timeout u seen i c r (Ok p) took is last cause said =
    then_sound g span (PlannedIsRefused g o span) (IsTried Any (IsPromoted span (others_than g))) (PlannedEnds g o span) _ _
    (tried_sound g span (PlannedIsRefused g o span) Any (IsPromoted span (others_than g)) _
    (established_sound g span Any timeout (others_than g) u i.alias p took said (λ x bar. tt) (λ x refused. tt)))
    (λ x any. gives_sound g span (PlannedIsRefused g o span) (PlannedEnds g o span) (endings.Refused r (Some true)) (Undone seen i c r p is last cause said))
undone_sound g o span timeout u seen i c r (Err failed) took is last cause failing =
    gives_sound g span (PlannedIsRefused g o span) (PlannedEnds g o span) (endings.Refused r (Some false)) (NotUndone seen i c r failed is last cause failing)

undoes_sound : (g : Group) (o : PlannedOptions) (span : List Deed) (timeout u : ℕ) (seen : Seen) (i : Intent) (c : Alias) (p : Position) (r : Refusal)
    → IsTaken span u → IsRead span seen → seen.intent ≡ Some i → Ground g span p → CannotCatchUp span c r
    → IsSound g span (PlannedIsRefused g o span) (undoes g timeout u i.alias p r) (PlannedEnds g o span)
unfolding undoes
undoes_sound g o span timeout u seen i c p r took is last basis cause =
    bind_sound g span (PlannedIsRefused g o span) (IsTried (CannotPromote span i.alias) (λ q. IsSaid span i.alias kinds.Promote (says.Promoted q))) (PlannedEnds g o span) _ _
    (tried_sound g span (PlannedIsRefused g o span) (CannotPromote span i.alias) (λ q. IsSaid span i.alias kinds.Promote (says.Promoted q)) _
    (promotes_sound g span (CannotPromote span i.alias) i.alias p basis (λ x bar. LostLock bar) (λ x refused. ByPromote refused)))
    (λ q tried. undone_sound g o span timeout u seen i c r q took is last cause tried)

replaced_sound : (g : Group) (o : PlannedOptions) (span : List Deed) (timeout u : ℕ) (seen : Seen) (i : Intent) (c : Alias) (p : Position) (x : Result (Unit {0}) Refusal)
    → IsTaken span u → IsRead span seen → seen.intent ≡ Some i → Ground g span p → IsTried (CannotCatchUp span c) Any x
    → IsSound g span (PlannedIsRefused g o span) (replaced_by g timeout u i.alias c p x) (PlannedEnds g o span)
unfolding replaced_by
replaced_sound g o span timeout u seen i c p (Ok x) took is last basis any = all_sound g o span timeout u c p took basis
replaced_sound g o span timeout u seen i c p (Err r) took is last basis cause = undoes_sound g o span timeout u seen i c p r took is last basis cause

replaces_sound : (g : Group) (o : PlannedOptions) (span : List Deed) (timeout u : ℕ) (seen : Seen) (i : Intent) (c : Alias) (p : Position)
    → IsTaken span u → IsRead span seen → seen.intent ≡ Some i → Ground g span p
    → IsSound g span (PlannedIsRefused g o span) (replaces g timeout u i c p) (PlannedEnds g o span)
unfolding replaces
replaces_sound g o span timeout u seen i c p took is last basis =
    if_sound g span (PlannedIsRefused g o span) (PlannedEnds g o span) (alias_eq c i.alias) _ _ (λ same. all_sound g o span timeout u c p took basis)
    (λ other. bind_sound g span (PlannedIsRefused g o span) (IsTried (CannotCatchUp span c) Any) (PlannedEnds g o span) _ _
    (tried_sound g span (PlannedIsRefused g o span) (CannotCatchUp span c) Any _ (catches_sound g span timeout i c p))
    (λ x tried. replaced_sound g o span timeout u seen i c p x took is last basis tried))

from_sound : (g : Group) (o : PlannedOptions) (span : List Deed) (u : ℕ) (seen : Seen) (i : Intent) → IsTaken span u → IsRead span seen → seen.intent ≡ Some i
    → IsSound g span (PlannedIsRefused g o span) (reparents_from g o u seen i) (PlannedEnds g o span)
unfolding reparents_from
from_sound g o span u seen i took is last =
    bind_sound g span (PlannedIsRefused g o span) Any (PlannedEnds g o span) _ _ (successor_sound g o span seen i o.new_primary is last refl)
    (λ c any. bind_sound g span (PlannedIsRefused g o span) (λ p. Ground g span p) (PlannedEnds g o span) _ _ (demotes_sound g o span seen i is last)
    (λ p basis. replaces_sound g o span o.timeout u seen i c p took is last basis))

first_sound : (g : Group) (o : PlannedOptions) (span : List Deed) (seen : Seen) (given : Option Alias) → IsRead span seen → seen.intent ≡ None → o.new_primary ≡ given
    → IsSound g span (PlannedIsRefused g o span) (walked (first_primary g o seen given)) Any
first_sound g o span seen (Some c) is last given = gives_sound g span (PlannedIsRefused g o span) Any c tt
first_sound g o span seen None is last given =
    weaker_sound g span (PlannedIsRefused g o span) (PlannedIsRefused g o span) (λ c. first_of g seen o.avoid ≡ Ok c) Any _ (λ r cause. cause) (λ c same. tt)
    (chosen_sound g span (PlannedIsRefused g o span) (first_of g seen o.avoid) (λ r refused. NoFirst seen is last given refused))

by_sound : (g : Group) (o : PlannedOptions) (span : List Deed) (u : ℕ) (seen : Seen) (i : Option Intent) → IsTaken span u → IsRead span seen → seen.intent ≡ i
    → IsSound g span (PlannedIsRefused g o span) (reparents_by g o u seen i) (PlannedEnds g o span)
unfolding reparents_by
by_sound g o span u seen None took is last =
    bind_sound g span (PlannedIsRefused g o span) Any (PlannedEnds g o span) _ _ (first_sound g o span seen o.new_primary is last refl)
    (λ c any. all_sound g o span o.timeout u c nothing took (First seen is last refl))
by_sound g o span u seen (Some i) took is last =
    if_sound g span (PlannedIsRefused g o span) (PlannedEnds g o span) (is_idle o.avoid i.alias) _ _
    (λ idle. gives_sound g span (PlannedIsRefused g o span) (PlannedEnds g o span) (endings.NothingToDo i.alias) (Nothing seen i is last idle))
    (λ busy. from_sound g o span u seen i took is last)

pub planned_sound : (g : Group) (o : PlannedOptions) (span : List Deed) → IsSound g span (PlannedIsRefused g o span) (planned_course g o) (PlannedEnds g o span)
unfolding planned_course
planned_sound g o span =
    bind_sound g span (PlannedIsRefused g o span) (λ u. IsTaken span u) (PlannedEnds g o span) _ _
    (then_sound g span (PlannedIsRefused g o span) (λ x. refusal_of_planned g o ≡ None) (λ u. IsTaken span u) (unless (refusal_of_planned g o)) takes_lock
    (unless_sound g span (PlannedIsRefused g o span) (refusal_of_planned g o) (λ r refused. AtOnce refused)) (λ x none. takes_sound g span (PlannedIsRefused g o span) (λ r bar. ByTopology bar)))
    (λ u took. bind_sound g span (PlannedIsRefused g o span) (λ seen. IsRead span seen) (PlannedEnds g o span) _ _
    (reads_sound g span (PlannedIsRefused g o span) (λ r bar. ByTopology bar))
    (λ seen is. then_sound g span (PlannedIsRefused g o span) (λ x. refusal_by_seen o.expected o.new_primary seen ≡ None) (PlannedEnds g o span)
    (unless (refusal_by_seen o.expected o.new_primary seen)) (reparents_by g o u seen seen.intent)
    (unless_sound g span (PlannedIsRefused g o span) (refusal_by_seen o.expected o.new_primary seen) (λ r refused. BySeen seen is refused))
    (λ x none. by_sound g o span u seen seen.intent took is refl)))
