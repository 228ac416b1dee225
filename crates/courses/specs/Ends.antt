-- The causes of answers, off what a command did and the one table of refusals. After the answers of PlannedReparentShard, EmergencyReparentShard
-- and TabletExternallyReparented (Vitess manual); a client is told of its write once the entry counts as committed (MySQL 8.0 manual,
-- semisynchronous replication).
use Rattle.std.specs.Prelude.{◌≡◌, ℕ, true, false, List, Option, Some, None, Ok, Err}
use Rattle.std.specs.List.{flat_map}
use Rattle.shard_names.specs.declared.alias.Alias.{Alias}
use Rattle.gtid_sets.specs.declared.held.Held.{Held}
use Rattle.gtid_sets.specs.Position.{Position}
use Rattle.topo_lock.specs.declared.intent.Intent.{Intent}
use Rattle.topo_lock.specs.declared.intent.Record.{Record}
use Rattle.shard_calls.specs.declared.answer.Answer.{Answer}
use Rattle.shard_calls.specs.declared.answer.Answer.TheVariants as says
use Rattle.shard_calls.specs.declared.ending.CommandAnswer.{CommandAnswer}
use Rattle.shard_calls.specs.declared.ending.CommandAnswer.TheVariants as endings
use Rattle.shard_calls.specs.declared.event.Seen.{Seen}
use Rattle.shard_calls.specs.declared.refusal.Refusal.{Refusal}
use Rattle.shard_calls.specs.declared.stand.Stand.{Stand}
use Rattle.shard_calls.specs.declared.stand.Standing.{Standing}
use Rattle.shard_calls.specs.declared.span.Kind.{Kind}
use Rattle.shard_calls.specs.declared.span.Kind.TheVariants as kinds
use Rattle.shard_calls.specs.declared.group.Group.{Group}
use Rattle.shard_calls.specs.declared.command.EmergencyOptions.{EmergencyOptions}
use Rattle.shard_calls.specs.declared.command.PlannedOptions.{PlannedOptions}
use Rattle.shard_calls.specs.declared.span.Deed.{Deed}
use Rattle.shard_calls.specs.declared.span.Deed.TheVariants as deeds
use Rattle.shard_calls.specs.declared.span.Transaction.{Transaction}
use Rattle.shard_calls.specs.Refusals.{or_else, recorded_alias, is_of_promotion, refusal_of_undeclared, refusal_of_emergency, refusal_of_planned, refusal_by_seen, refusal_by_demoted, refusal_of_crossing, term_of_promoted}
use Rattle.shard_calls.specs.Causes.{is_idle, not_joined}
use Rattle.shard_calls.specs.Choosing.{candidates, first_of, follower}
use Rattle.shard_calls.specs.Rescuing.{first_by, heeded, helds, refusal_of_unrevoked, rescuer, stale_in, winner_of}
use Rattle.courses.specs.Emergency.{others_of}
use Rattle.courses.specs.Promoting.{others_than}
use Rattle.courses.specs.Sound.{IsIn, IsTaken, IsRead, IsRecorded, IsWritten, IsSaid, IsRefusedCall, AreCalled, IsBarred}

-- ---- reparents

-- a tablet was promoted in the term that the command took, and recorded, and its promotion counts as committed; those did not join that answered
-- so, of these others
pub data IsPromoted (span : List Deed) (others : Alias → List Alias) : CommandAnswer → Type 0 where
  Established : (c : Alias) (u : ℕ) (p : Position) (done : List Deed) → IsTaken span u
      → IsSaid span c kinds.Promote (says.Promoted p) → IsRecorded span c
      → AreCalled span (others c) kinds.SetSource done → IsSaid span c kinds.WaitTold says.Told
      → IsPromoted span others (endings.Promoted c u (flat_map not_joined done))

-- why a tablet could not be promoted: the lock was lost, or by what its Promote came to
pub data CannotPromote (span : List Deed) (a : Alias) (r : Refusal) : Type 0 where
  LostLock : IsBarred span r → CannotPromote span a r
  ByPromote : IsRefusedCall span a kinds.Promote r → CannotPromote span a r

-- why a tablet that the last intent's tablet is to be replaced by does not catch up with it
pub data CannotCatchUp (span : List Deed) (c : Alias) (r : Refusal) : Type 0 where
  BySetSource : IsRefusedCall span c kinds.SetSource r → CannotCatchUp span c r
  ByWaitFor : IsRefusedCall span c kinds.WaitFor r → CannotCatchUp span c r

-- why a PlannedReparentShard is refused, where nothing was to be undone
pub data PlannedIsRefused (g : Group) (o : PlannedOptions) (span : List Deed) (r : Refusal) : Type 0 where
  AtOnce : refusal_of_planned g o ≡ Some r → PlannedIsRefused g o span r
  ByTopology : IsBarred span r → PlannedIsRefused g o span r
  BySeen : (seen : Seen) → IsRead span seen → refusal_by_seen o.expected o.new_primary seen ≡ Some r → PlannedIsRefused g o span r
  NoFirst : (seen : Seen) → IsRead span seen → seen.intent ≡ None → o.new_primary ≡ None
      → first_of g seen o.avoid ≡ Err r → PlannedIsRefused g o span r
  Crossing : (seen : Seen) (i : Intent) (c : Alias) → IsRead span seen → seen.intent ≡ Some i → o.new_primary ≡ Some c
      → refusal_of_crossing o.allow_cross_cell i.alias c ≡ Some r → PlannedIsRefused g o span r
  NoFollower : (seen : Seen) (i : Intent) (done : List Deed) → IsRead span seen → seen.intent ≡ Some i → o.new_primary ≡ None
      → AreCalled span (candidates g o.allow_cross_cell seen i.alias) kinds.Status done
      → follower g o.allow_cross_cell seen i.alias done ≡ Err r → PlannedIsRefused g o span r
  ByDemote : (seen : Seen) (i : Intent) → IsRead span seen → seen.intent ≡ Some i
      → IsRefusedCall span i.alias kinds.Demote r → PlannedIsRefused g o span r
  IsPending : (seen : Seen) (i : Intent) (answer : Answer) → IsRead span seen → seen.intent ≡ Some i → IsSaid span i.alias kinds.Demote answer
      → refusal_by_demoted i answer ≡ Some r → PlannedIsRefused g o span r
  ByPromotion : (c : Alias) (kind : Kind) → is_of_promotion kind ≡ true → IsRefusedCall span c kind r → PlannedIsRefused g o span r

-- what a PlannedReparentShard ends with. Where the tablet that was to follow did not catch up, the old primary was to be promoted again: it was, or
-- could not be.
pub data PlannedEnds (g : Group) (o : PlannedOptions) (span : List Deed) : CommandAnswer → Type 0 where
  Promotes : (x : CommandAnswer) → IsPromoted span (others_than g) x → PlannedEnds g o span x
  Nothing : (seen : Seen) (i : Intent) → IsRead span seen → seen.intent ≡ Some i → is_idle o.avoid i.alias ≡ true
      → PlannedEnds g o span (endings.NothingToDo i.alias)
  Undone : (seen : Seen) (i : Intent) (c : Alias) (r : Refusal) (p : Position) → IsRead span seen → seen.intent ≡ Some i → CannotCatchUp span c r
      → IsSaid span i.alias kinds.Promote (says.Promoted p) → PlannedEnds g o span (endings.Refused r (Some true))
  NotUndone : (seen : Seen) (i : Intent) (c : Alias) (r failed : Refusal) → IsRead span seen → seen.intent ≡ Some i → CannotCatchUp span c r
      → CannotPromote span i.alias failed → PlannedEnds g o span (endings.Refused r (Some false))

-- ---- an emergency

-- why a tablet that is to take over does not come to have what the winner has
pub data CannotFeed (span : List Deed) (w c : Alias) (r : Refusal) : Type 0 where
  ByFeed : IsRefusedCall span w kinds.Feed r → CannotFeed span w c r
  ByJoining : IsRefusedCall span c kinds.SetSource r → CannotFeed span w c r
  ByHolding : IsRefusedCall span c kinds.WaitFor r → CannotFeed span w c r

-- why an EmergencyReparentShard is refused
pub data EmergencyIsRefused (g : Group) (o : EmergencyOptions) (span : List Deed) (r : Refusal) : Type 0 where
  AtOnce : refusal_of_emergency g o ≡ Some r → EmergencyIsRefused g o span r
  ByTopology : IsBarred span r → EmergencyIsRefused g o span r
  BySeen : (seen : Seen) → IsRead span seen → refusal_by_seen o.expected o.new_primary seen ≡ Some r → EmergencyIsRefused g o span r
  IsStale : (done : List Deed) → AreCalled span (heeded g o.ignored) kinds.Stop done → first_by stale_in done ≡ Some r → EmergencyIsRefused g o span r
  NotRevoked : (done : List Deed) → AreCalled span (heeded g o.ignored) kinds.Stop done → refusal_of_unrevoked g o.ignored done ≡ Some r
      → EmergencyIsRefused g o span r
  NoWinner : (seen : Seen) (done : List Deed) → IsRead span seen → AreCalled span (heeded g o.ignored) kinds.Stop done
      → winner_of g o seen done ≡ Err r → EmergencyIsRefused g o span r
  NoRescuer : (seen : Seen) (done : List Deed) (w : Held) → IsRead span seen → AreCalled span (heeded g o.ignored) kinds.Stop done
      → winner_of g o seen done ≡ Ok w → rescuer g o seen done w o.new_primary ≡ Err r → EmergencyIsRefused g o span r
  NotFed : (w c : Alias) → CannotFeed span w c r → EmergencyIsRefused g o span r
  ByPromotion : (c : Alias) (kind : Kind) → is_of_promotion kind ≡ true → IsRefusedCall span c kind r → EmergencyIsRefused g o span r

-- what it ends with: a tablet was promoted, and those were to join it that stopped
pub data EmergencyEnds (g : Group) (o : EmergencyOptions) (span : List Deed) (x : CommandAnswer) : Type 0 where
  Rescues : (done : List Deed) → AreCalled span (heeded g o.ignored) kinds.Stop done → IsPromoted span (λ c. others_of c (helds done)) x
      → EmergencyEnds g o span x

-- ---- promotions by other hands

-- why a TabletExternallyReparented is refused
pub data ExternalIsRefused (g : Group) (a : Alias) (span : List Deed) (r : Refusal) : Type 0 where
  AtOnce : refusal_of_undeclared g (Some a) ≡ Some r → ExternalIsRefused g a span r
  ByTopology : IsBarred span r → ExternalIsRefused g a span r
  ByStatus : IsRefusedCall span a kinds.Status r → ExternalIsRefused g a span r
  NoPrimary : (seen : Seen) (heard promised newest : ℕ) (stand : Stand) (p : Position) → IsRead span seen
      → IsSaid span a kinds.Status (says.Status heard promised stand newest p)
      → term_of_promoted a newest seen.intent stand ≡ Err r → ExternalIsRefused g a span r

-- what it ends with: the tablet said that it stands as the primary of the last intent's term, and was recorded
pub data ExternalEnds (a : Alias) (span : List Deed) : CommandAnswer → Type 0 where
  Recorded : (seen : Seen) (heard promised newest t : ℕ) (stand : Stand) (p : Position) → IsRead span seen
      → IsSaid span a kinds.Status (says.Status heard promised stand newest p) → term_of_promoted a newest seen.intent stand ≡ Ok t
      → IsRecorded span a → ExternalEnds a span (endings.Recorded t)

-- ---- writes and shows

-- what a write ends with
pub data WriteEnds (to : Option Alias) (recorded : Option Record) (span : List Deed) : CommandAnswer → Type 0 where
  Committed : (a : Alias) (x : Transaction) → or_else to (recorded_alias recorded) ≡ Some a → IsWritten span a (Ok x) → IsIn span (deeds.Told true)
      → WriteEnds to recorded span (endings.Committed x.gtid a x.term)
  Unknown : (a : Alias) (x : Transaction) → or_else to (recorded_alias recorded) ≡ Some a → IsWritten span a (Ok x) → IsIn span (deeds.Told false)
      → WriteEnds to recorded span (endings.Unknown x.gtid a x.term)
  NotPrimary : (a : Alias) (stand : Standing) → or_else to (recorded_alias recorded) ≡ Some a → IsWritten span a (Err stand)
      → WriteEnds to recorded span (endings.NotPrimary a stand)
  Nowhere : to ≡ None → recorded_alias recorded ≡ None → WriteEnds to recorded span endings.NoPrimaryRecorded
