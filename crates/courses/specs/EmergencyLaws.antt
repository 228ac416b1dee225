-- The course of EmergencyReparentShard (Vitess manual) is stable and sound: each tablet that it asks to be the primary has to have what the winner
-- has of those that stopped, which keep every older primary from committing. After Sougoumarane's "Consensus algorithms at scale".
use Rattle.std.proofs.Common.{◌≡◌, refl, ap, ℕ, List, Option, Some, None, Result, Ok, Err}
use Rattle.std.specs.Prelude.{⊤}
use Rattle.shard_names.specs.declared.alias.Alias.{Alias}
use Rattle.shard_names.specs.declared.tablet.Tablet.{Tablet}
use Rattle.gtid_sets.specs.declared.held.Held.{Held}
use Rattle.gtid_sets.specs.Position.{Position, covers}
use Rattle.gtid_sets.specs.Winner.{first_apart, leading, winner}
use Rattle.shard_calls.specs.declared.call.Call.TheVariants as calls
use Rattle.shard_calls.specs.declared.command.EmergencyOptions.{EmergencyOptions}
use Rattle.shard_calls.specs.declared.event.Seen.{Seen}
use Rattle.shard_calls.specs.declared.group.Group.{Group}
use Rattle.shard_calls.specs.declared.refusal.Refusal.{Refusal}
use Rattle.shard_calls.specs.declared.refusal.Refusal.TheVariants as refusals
use Rattle.shard_calls.specs.declared.span.Deed.{Deed}
use Rattle.shard_calls.specs.declared.span.Kind.TheVariants as kinds
use Rattle.shard_calls.specs.Refusals.{refusal_by_seen, refusal_of_emergency}
use Rattle.shard_calls.specs.Rescuing.{first_by, first_unrevoked, heeded, helds, position_of, reached_by, reasons_to_rescue, refusal_by_unrevoked, refusal_of_split, refusal_of_unrevoked, rescuer, stale_in, winner_of, winner_or}
use Rattle.courses.specs.Walks.{refusing, or_refusing, unless, takes_lock}
use Rattle.courses.specs.Planned.{following, holding}
use Rattle.courses.specs.Emergency.{stops_all, is_fed, has_all, others_of, takes_over, rescues_by, rescues, emergency_course}
use Rattle.courses.specs.Laws.{IsStable}
use Rattle.courses.specs.Stable.{pure_stable, bind_stable, then_stable, if_stable, takes_stable, reads_stable, needs_stable, calls_stable}
use Rattle.courses.specs.PlannedStable.{reparents_stable}
use Rattle.courses.specs.Sound.{IsTaken, IsRead, IsSaid, AreCalled, Stopped, IsSound}
use Rattle.courses.specs.SoundLemmas.{gives_sound, bind_sound, then_sound, if_sound, weaker_sound, unless_sound, chosen_sound, takes_sound, reads_sound, needs_sound, calls_sound}
use Rattle.courses.specs.PlannedSound.{following_sound, holding_sound, reparents_sound}
use Rattle.courses.specs.Ends.{IsPromoted, ByFeed, ByJoining, ByHolding, EmergencyIsRefused, AtOnce, ByTopology, BySeen, IsStale, NotRevoked, NoWinner, NoRescuer, NotFed, ByPromotion, EmergencyEnds, Rescues}

-- ---- it is stable

stops_stable : (g : Group) (ignored : List Alias) → IsStable (stops_all g ignored)
unfolding stops_all
stops_stable g ignored =
    bind_stable _ _ (calls_stable (heeded g ignored) calls.Stop)
    (λ done. then_stable _ _ (then_stable _ _ (pure_stable (refusing (first_by stale_in done))) (pure_stable (refusing (refusal_of_unrevoked g ignored done)))) (pure_stable (Ok done)))

fed_stable : (timeout u : ℕ) (w : Held) (c : Alias) → IsStable (is_fed timeout u w c)
unfolding is_fed
fed_stable timeout u w c =
    bind_stable _ _ (then_stable _ _ (needs_stable w.alias calls.Feed) (needs_stable c (calls.SetSource w.alias u w.position)))
    (λ x. bind_stable _ _ (then_stable _ _ (pure_stable (following x)) (needs_stable c (calls.WaitFor w.position timeout))) (λ y. pure_stable (holding y)))

has_stable : (timeout u : ℕ) (w : Held) (c : Alias) (p : Position) → IsStable (has_all timeout u w c p)
unfolding has_all
has_stable timeout u w c p = if_stable (covers p w.position) _ _ (pure_stable (Ok tt)) (fed_stable timeout u w c)

over_stable : (timeout u : ℕ) (done : List Deed) (w : Held) (c : Alias) → IsStable (takes_over timeout u done w c)
unfolding takes_over
over_stable timeout u done w c =
    then_stable _ _ (has_stable timeout u w c (position_of (helds done) c)) (reparents_stable timeout (others_of c (helds done)) u c w.position)

by_stable : (g : Group) (o : EmergencyOptions) (u : ℕ) (seen : Seen) (done : List Deed) → IsStable (rescues_by g o u seen done)
unfolding rescues_by
by_stable g o u seen done =
    bind_stable _ _ (pure_stable (or_refusing (winner_of g o seen done)))
    (λ w. bind_stable _ _ (pure_stable (or_refusing (rescuer g o seen done w o.new_primary))) (λ c. over_stable o.timeout u done w c))

rescues_stable : (g : Group) (o : EmergencyOptions) (u : ℕ) (seen : Seen) → IsStable (rescues g o u seen)
unfolding rescues
rescues_stable g o u seen = bind_stable _ _ (stops_stable g o.ignored) (λ done. by_stable g o u seen done)

pub emergency_stable : (g : Group) (o : EmergencyOptions) → IsStable (emergency_course g o)
unfolding emergency_course
emergency_stable g o =
    bind_stable _ _ (then_stable _ _ (pure_stable (refusing (refusal_of_emergency g o))) takes_stable)
    (λ u. bind_stable _ _ reads_stable (λ seen. then_stable _ _ (pure_stable (refusing (refusal_by_seen o.expected o.new_primary seen))) (rescues_stable g o u seen)))

-- ---- it is sound

abbrev Any : {A : Type 0} → A → Type 0
Any x = ⊤

-- they were all called to stop, and those that did revoke every tablet that may be promoted
record AreStopped (g : Group) (o : EmergencyOptions) (span done : List Deed) : Type 0 where
  called : AreCalled span (heeded g o.ignored) kinds.Stop done
  revoked : first_unrevoked g (reached_by (helds done)) ≡ None

revoked_by : (g : Group) (ignored : List Alias) (done : List Deed) (t : Option Tablet) → refusal_by_unrevoked g ignored done t ≡ None → t ≡ None
revoked_by g ignored done None none = refl
revoked_by g ignored done (Some t) none = absurd (let no_way : refusal_by_unrevoked g ignored done (Some t) ≡ None = none in cc)

ok_of : Result Held Refusal → Option Held
ok_of (Ok h) = Some h
ok_of (Err r) = None

winner_is : (x : Option Held) (two : Option Refusal) (none : Refusal) (w : Held) → winner_or x two none ≡ Ok w → x ≡ Some w
unfolding ok_of
winner_is (Some h) two none w same = ap ok_of same
winner_is None (Some r) none w same = ap ok_of same
winner_is None None none w same = ap ok_of same

stops_sound : (g : Group) (o : EmergencyOptions) (span : List Deed) → IsSound g span (EmergencyIsRefused g o span) (stops_all g o.ignored) (λ done. AreStopped g o span done)
unfolding stops_all
stops_sound g o span =
    bind_sound g span (EmergencyIsRefused g o span) (λ done. AreCalled span (heeded g o.ignored) kinds.Stop done) (λ done. AreStopped g o span done) _ _
    (calls_sound g span (EmergencyIsRefused g o span) (heeded g o.ignored) calls.Stop (λ a. tt))
    (λ done called. then_sound g span (EmergencyIsRefused g o span) (λ x. refusal_of_unrevoked g o.ignored done ≡ None) (λ done. AreStopped g o span done) _ _
    (then_sound g span (EmergencyIsRefused g o span) (λ x. first_by stale_in done ≡ None) (λ x. refusal_of_unrevoked g o.ignored done ≡ None)
    (unless (first_by stale_in done)) (unless (refusal_of_unrevoked g o.ignored done))
    (unless_sound g span (EmergencyIsRefused g o span) (first_by stale_in done) (λ r stale. IsStale done called stale))
    (λ x none. unless_sound g span (EmergencyIsRefused g o span) (refusal_of_unrevoked g o.ignored done) (λ r unrevoked. NotRevoked done called unrevoked)))
    (λ x none. gives_sound g span (EmergencyIsRefused g o span) (λ done. AreStopped g o span done) done
    (record { called = called; revoked = revoked_by g o.ignored done (first_unrevoked g (reached_by (helds done))) none })))

fed_sound : (g : Group) (o : EmergencyOptions) (span : List Deed) (timeout u : ℕ) (w : Held) (c : Alias)
    → IsSound g span (EmergencyIsRefused g o span) (is_fed timeout u w c) Any
unfolding is_fed
fed_sound g o span timeout u w c =
    bind_sound g span (EmergencyIsRefused g o span) (λ x. IsSaid span c kinds.SetSource x) Any _ _
    (then_sound g span (EmergencyIsRefused g o span) (λ x. IsSaid span w.alias kinds.Feed x) (λ x. IsSaid span c kinds.SetSource x) _ _
    (needs_sound g span (EmergencyIsRefused g o span) w.alias calls.Feed tt (λ r refused. NotFed w.alias c (ByFeed refused)))
    (λ x said. needs_sound g span (EmergencyIsRefused g o span) c (calls.SetSource w.alias u w.position) tt (λ r refused. NotFed w.alias c (ByJoining refused))))
    (λ x said. bind_sound g span (EmergencyIsRefused g o span) (λ y. IsSaid span c kinds.WaitFor y) Any _ _
    (then_sound g span (EmergencyIsRefused g o span) Any (λ y. IsSaid span c kinds.WaitFor y) _ _ (following_sound g span (EmergencyIsRefused g o span) x)
    (λ z any. needs_sound g span (EmergencyIsRefused g o span) c (calls.WaitFor w.position timeout) tt (λ r refused. NotFed w.alias c (ByHolding refused))))
    (λ y heard. holding_sound g span (EmergencyIsRefused g o span) y))

has_sound : (g : Group) (o : EmergencyOptions) (span : List Deed) (timeout u : ℕ) (w : Held) (c : Alias) (p : Position)
    → IsSound g span (EmergencyIsRefused g o span) (has_all timeout u w c p) Any
unfolding has_all
has_sound g o span timeout u w c p =
    if_sound g span (EmergencyIsRefused g o span) Any (covers p w.position) _ _ (λ has. gives_sound g span (EmergencyIsRefused g o span) Any (tt {0}) (tt {0}))
    (λ lacks. fed_sound g o span timeout u w c)

over_sound : (g : Group) (o : EmergencyOptions) (span : List Deed) (timeout u : ℕ) (done : List Deed) (w : Held) (c : Alias)
    → IsTaken span u → AreStopped g o span done → winner (helds done) ≡ Some w
    → IsSound g span (EmergencyIsRefused g o span) (takes_over timeout u done w c) (EmergencyEnds g o span)
unfolding takes_over
over_sound g o span timeout u done w c took stopped ahead =
    then_sound g span (EmergencyIsRefused g o span) Any (EmergencyEnds g o span) _ _ (has_sound g o span timeout u w c (position_of (helds done) c))
    (λ x any. weaker_sound g span (EmergencyIsRefused g o span) (EmergencyIsRefused g o span) (IsPromoted span (λ a. others_of a (helds done))) (EmergencyEnds g o span) _
    (λ r cause. cause) (λ y is. Rescues done stopped.called is)
    (reparents_sound g span (EmergencyIsRefused g o span) timeout (λ a. others_of a (helds done)) u c w.position took
    (Stopped (heeded g o.ignored) done w stopped.called stopped.revoked ahead refl) (λ r bar. ByTopology bar)
    (λ r refused. ByPromotion c kinds.Promote refl refused) (λ r refused. ByPromotion c kinds.WaitTold refl refused)))

by_sound : (g : Group) (o : EmergencyOptions) (span : List Deed) (u : ℕ) (seen : Seen) (done : List Deed) → IsTaken span u → IsRead span seen → AreStopped g o span done
    → IsSound g span (EmergencyIsRefused g o span) (rescues_by g o u seen done) (EmergencyEnds g o span)
unfolding rescues_by
by_sound g o span u seen done took is stopped =
    bind_sound g span (EmergencyIsRefused g o span) (λ w. winner_of g o seen done ≡ Ok w) (EmergencyEnds g o span) _ _
    (chosen_sound g span (EmergencyIsRefused g o span) (winner_of g o seen done) (λ r refused. NoWinner seen done is stopped.called refused))
    (λ w ahead. bind_sound g span (EmergencyIsRefused g o span) (λ c. rescuer g o seen done w o.new_primary ≡ Ok c) (EmergencyEnds g o span) _ _
    (chosen_sound g span (EmergencyIsRefused g o span) (rescuer g o seen done w o.new_primary) (λ r refused. NoRescuer seen done w is stopped.called ahead refused))
    (λ c same. over_sound g o span o.timeout u done w c took stopped
    (winner_is (winner (helds done)) (refusal_of_split (first_apart (leading (helds done)))) (refusals.NoCandidate (reasons_to_rescue g o seen done)) w ahead)))

rescues_sound : (g : Group) (o : EmergencyOptions) (span : List Deed) (u : ℕ) (seen : Seen) → IsTaken span u → IsRead span seen
    → IsSound g span (EmergencyIsRefused g o span) (rescues g o u seen) (EmergencyEnds g o span)
unfolding rescues
rescues_sound g o span u seen took is =
    bind_sound g span (EmergencyIsRefused g o span) (λ done. AreStopped g o span done) (EmergencyEnds g o span) _ _ (stops_sound g o span)
    (λ done stopped. by_sound g o span u seen done took is stopped)

pub emergency_sound : (g : Group) (o : EmergencyOptions) (span : List Deed)
    → IsSound g span (EmergencyIsRefused g o span) (emergency_course g o) (EmergencyEnds g o span)
unfolding emergency_course
emergency_sound g o span =
    bind_sound g span (EmergencyIsRefused g o span) (λ u. IsTaken span u) (EmergencyEnds g o span) _ _
    (then_sound g span (EmergencyIsRefused g o span) (λ x. refusal_of_emergency g o ≡ None) (λ u. IsTaken span u) (unless (refusal_of_emergency g o)) takes_lock
    (unless_sound g span (EmergencyIsRefused g o span) (refusal_of_emergency g o) (λ r refused. AtOnce refused))
    (λ x none. takes_sound g span (EmergencyIsRefused g o span) (λ r bar. ByTopology bar)))
    (λ u took. bind_sound g span (EmergencyIsRefused g o span) (λ seen. IsRead span seen) (EmergencyEnds g o span) _ _
    (reads_sound g span (EmergencyIsRefused g o span) (λ r bar. ByTopology bar))
    (λ seen is. then_sound g span (EmergencyIsRefused g o span) (λ x. refusal_by_seen o.expected o.new_primary seen ≡ None) (EmergencyEnds g o span)
    (unless (refusal_by_seen o.expected o.new_primary seen)) (rescues g o u seen)
    (unless_sound g span (EmergencyIsRefused g o span) (refusal_by_seen o.expected o.new_primary seen) (λ r refused. BySeen seen is refused))
    (λ x none. rescues_sound g o span u seen took is)))
