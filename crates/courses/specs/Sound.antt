-- What a course promises of what it demands and of what it ends with: it asks a tablet to be the primary only on a ground that its span shows,
-- and each answer has its cause there, by the one table of refusals. After the promotion rules of PlannedReparentShard (Vitess manual).
use Rattle.std.specs.Prelude.{◌≡◌, ℕ, Bool, true, false, ◌&&◌, ◌==◌, List, [], ◌∷◌, ◌++◌, Some, None, Result, Ok, Err, ⊤}
use Rattle.std.specs.List.{list_any}
use Rattle.shard_names.specs.declared.alias.Alias.{Alias}
use Rattle.shard_names.specs.Tablets.{alias_eq}
use Rattle.gtid_sets.specs.Position.{Position, nothing}
use Rattle.gtid_sets.specs.declared.held.Held.{Held}
use Rattle.gtid_sets.specs.Winner.{winner}
use Rattle.topo_lock.specs.declared.intent.Intent.{Intent}
use Rattle.shard_calls.specs.declared.answer.Answer.{Answer}
use Rattle.shard_calls.specs.declared.answer.Answer.TheVariants as says
use Rattle.shard_calls.specs.declared.call.Call.{Call}
use Rattle.shard_calls.specs.declared.call.Call.TheVariants as calls
use Rattle.shard_calls.specs.declared.event.Seen.{Seen}
use Rattle.shard_calls.specs.declared.group.Group.{Group}
use Rattle.shard_calls.specs.declared.refusal.Refusal.{Refusal}
use Rattle.shard_calls.specs.declared.stand.Standing.{Standing}
use Rattle.shard_calls.specs.declared.span.Kind.{Kind}
use Rattle.shard_calls.specs.declared.span.Kind.TheVariants as kinds
use Rattle.shard_calls.specs.declared.span.Outcome.{Outcome}
use Rattle.shard_calls.specs.declared.span.Outcome.TheVariants as outcomes
use Rattle.shard_calls.specs.declared.span.Asked.{Asked}
use Rattle.shard_calls.specs.declared.span.Deed.{Deed}
use Rattle.shard_calls.specs.declared.span.Deed.TheVariants as deeds
use Rattle.courses.specs.declared.want.Exit.{Exit}
use Rattle.courses.specs.declared.want.Exit.TheVariants as exits
use Rattle.shard_calls.specs.declared.span.Transaction.{Transaction}
use Rattle.courses.specs.declared.want.Want.{Want}
use Rattle.courses.specs.declared.want.Want.TheVariants as wants
use Rattle.shard_calls.specs.Refusals.{refusal_after, refusal_by_topology}
use Rattle.shard_calls.specs.Rescuing.{first_unrevoked, helds, reached_by}
use Rattle.courses.specs.Walks.{Course, is_ask, is_out}

-- ---- what a span shows

-- the deed stands in the span
pub record IsIn (span : List Deed) (d : Deed) : Type 0 where
  pub before : List Deed
  pub after : List Deed
  pub split : span ≡ before ++ d ∷ after

-- these deeds stand in the span, one after another
pub record IsPart (span done : List Deed) : Type 0 where
  pub before : List Deed
  pub after : List Deed
  pub split : span ≡ before ++ (done ++ after)

-- these are the last deeds of the span
pub record IsEnd (span : List Deed) (rest : List Deed) : Type 0 where
  pub before : List Deed
  pub split : span ≡ before ++ rest

-- the lock was taken in this term
abbrev pub IsTaken : List Deed → ℕ → Type 0
IsTaken span u = IsIn span (deeds.Took (Ok u))

-- this was read of the topology
abbrev pub IsRead : List Deed → Seen → Type 0
IsRead span seen = IsIn span (deeds.Read (Ok seen))

-- the tablet is intended
pub record IsIntended (span : List Deed) (c : Alias) : Type 0 where
  pub alias : Alias
  pub deed : IsIn span (deeds.Intended alias (Ok tt))
  pub same : alias_eq alias c ≡ true

-- the tablet is recorded
pub record IsRecorded (span : List Deed) (c : Alias) : Type 0 where
  pub alias : Alias
  pub deed : IsIn span (deeds.Recorded alias (Ok tt))
  pub same : alias_eq alias c ≡ true

-- the tablet is marked as drained
pub record IsDrained (span : List Deed) (c : Alias) : Type 0 where
  pub alias : Alias
  pub deed : IsIn span (deeds.Drained alias (Ok tt))
  pub same : alias_eq alias c ≡ true

-- the tablet was to write, with this reply
pub record IsWritten (span : List Deed) (a : Alias) (reply : Result Transaction Standing) : Type 0 where
  pub alias : Alias
  pub deed : IsIn span (deeds.Wrote alias reply)
  pub same : alias_eq alias a ≡ true

-- the tablet was called so, and answered this
pub record IsSaid (span : List Deed) (a : Alias) (kind : Kind) (answer : Answer) : Type 0 where
  pub call_of : Asked
  pub deed : IsIn span (deeds.Asked call_of)
  pub is_call : is_ask a kind call_of ≡ true
  pub says : call_of.outcome ≡ Some (outcomes.Answered answer)

-- the tablet was called so, and the call came to this
pub record IsSettled (span : List Deed) (a : Alias) (kind : Kind) (outcome : Outcome) : Type 0 where
  pub call_of : Asked
  pub deed : IsIn span (deeds.Asked call_of)
  pub is_call : is_ask a kind call_of ≡ true
  pub came : call_of.outcome ≡ Some outcome

-- the tablet was called so, and by the table the command is refused for what that came to
pub record IsRefusedCall (span : List Deed) (a : Alias) (kind : Kind) (r : Refusal) : Type 0 where
  pub call_of : Asked
  pub deed : IsIn span (deeds.Asked call_of)
  pub is_call : is_ask a kind call_of ≡ true
  pub outcome : Outcome
  pub came : call_of.outcome ≡ Some outcome
  pub refused : refusal_after call_of outcome ≡ Some r

-- calls of these tablets, in order
abbrev pub are_calls : List Alias → Kind → List Deed → Bool
are_calls [] kind [] = true
are_calls (a ∷ more) kind (deeds.Asked x ∷ rest) = is_ask a kind x && are_calls more kind rest
are_calls them kind done = false

-- these tablets were called so, in order, and each call is settled
pub record AreCalled (span : List Deed) (them : List Alias) (kind : Kind) (done : List Deed) : Type 0 where
  pub part : IsPart span done
  pub are : are_calls them kind done ≡ true
  pub settled : list_any is_out done ≡ false

-- the topology refused the command
pub record IsBarred (span : List Deed) (r : Refusal) : Type 0 where
  pub deed : Deed
  pub stands : IsIn span deed
  pub refused : refusal_by_topology deed ≡ Some r

-- ---- evidence

-- The ground on which a tablet that is promoted has to have this position: no term intends anything before; or the tablet of the last intent
-- was demoted, has that term's row and nothing newer, and has this; or tablets were called to stop, those that did revoke every tablet of the
-- group that may be promoted, and the one that is ahead of them has this.
pub data Ground (g : Group) (span : List Deed) (p : Position) : Type 0 where
  First : (seen : Seen) → IsRead span seen → seen.intent ≡ None → p ≡ nothing → Ground g span p
  Demoted : (seen : Seen) (i : Intent) (newest : ℕ) → IsRead span seen → seen.intent ≡ Some i
      → IsSaid span i.alias kinds.Demote (says.Demoted newest p) → (newest == i.term) ≡ true → Ground g span p
  Stopped : (them : List Alias) (done : List Deed) (w : Held) → AreCalled span them kinds.Stop done
      → first_unrevoked g (reached_by (helds done)) ≡ None → winner (helds done) ≡ Some w → p ≡ w.position → Ground g span p

pub record Evidence (g : Group) (span : List Deed) (c : Alias) (p : Position) : Type 0 where
  pub intended : IsIntended span c
  pub basis : Ground g span p

abbrev pub CallIsFounded : Group → List Deed → Alias → Call → Type 0
CallIsFounded g span c (calls.Promote p) = Evidence g span c p
CallIsFounded g span c _ = ⊤

abbrev pub IsFounded : Group → List Deed → Want → Type 0
IsFounded g span (wants.Ask c call) = CallIsFounded g span c call
IsFounded g span _ = ⊤

-- ---- soundness

-- how far a course comes along the end of a span: what it demands is founded, R holds of its refusal, and Q of what it gives
abbrev pub Comes : {A : Type 0} → Group → List Deed → (Refusal → Type 0) → (A → Type 0) → Result A Exit → List Deed → Type 0
Comes g span R Q (Ok x) rest = IsEnd span rest × Q x
Comes g span R Q (Err (exits.Does want)) rest = IsFounded g span want
Comes g span R Q (Err (exits.Refused r)) rest = IsEnd span rest × R r
Comes g span R Q (Err exits.Waits) rest = ⊤
Comes g span R Q (Err exits.Strays) rest = ⊤
Comes g span R Q (Err exits.OutOfMemory) rest = ⊤

abbrev pub IsSound : {A : Type 0} → Group → List Deed → (Refusal → Type 0) → Course A → (A → Type 0) → Type 0
IsSound g span R m Q = (rest : List Deed) → IsEnd span rest → Comes g span R Q (m rest).came (m rest).rest
