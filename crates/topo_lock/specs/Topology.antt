-- The topology of a shard: its lock with terms, the intents, the record of the primary and the marks of drained tablets, and what
-- each row of the step table answers and leaves. After the shard lock, the shard record and the drained tablets of Vitess's
-- topology service (Vitess manual) and the terms of Sougoumarane's "Consensus algorithms at scale".
use Rattle.std.specs.Prelude.{◌≡◌, ◌≢◌, ℕ, ◌+◌, Bool, true, ◌&&◌, ◌==◌, if◌then◌else◌, List, [], ◌∷◌, ◌++◌, is_some, is_none, IsSomeAnd, Option, Some, None, Result, Ok, Err}
use Rattle.std.specs.List.{find}
use Rattle.shard_names.specs.declared.alias.Alias.{Alias}
use Rattle.std.specs.declared.cmp.Ordering.{Ordering}
use Rattle.std.specs.declared.cmp.Ordering.TheVariants.{Less, Equal, Greater}
use Rattle.shard_names.specs.Tablets.{alias_eq, alias_cmp}
use Rattle.topo_lock.specs.declared.lock.Holder.{Holder}
use Rattle.topo_lock.specs.declared.lock.LockTaken.{LockTaken}
use Rattle.topo_lock.specs.declared.lock.TopoFault.{TopoFault}
use Rattle.topo_lock.specs.declared.lock.TopoFault.TheVariants.{LockLost, IntentStands}
use Rattle.topo_lock.specs.declared.intent.Intent.{Intent}
use Rattle.topo_lock.specs.declared.intent.Record.{Record}

pub record Topology : Type 0 where
  pub term : ℕ
  pub holder : Option Holder
  pub intents : List Intent
  pub recorded : Option Record
  pub drained : List Alias

-- the topology that nothing has used yet
abbrev pub fresh : Topology
fresh = record { term = 0; holder = None; intents = []; recorded = None; drained = [] }

-- ---- the lock

abbrev pub is_held : Topology → Bool
is_held t = is_some t.holder

-- Whether the lock is held in this term. Each take raises the term, so only the last one who took the lock can hold it.
abbrev pub is_held_in : Topology → ℕ → Bool
is_held_in t term = is_held t && (t.term == term)

-- what is answered to one who has lost the lock: the term that the topology is at
abbrev pub lock_lost : {A : Type 0} → Topology → Result A TopoFault
lock_lost t = Err (LockLost t.term)

abbrev pub held_or_lost : Topology → ℕ → Result (Unit {0}) TopoFault
held_or_lost t term = if is_held_in t term then Ok tt else lock_lost t

-- ---- the intents

-- what this term intends
abbrev pub intent_of : Topology → ℕ → Option Intent
intent_of t term = find (λ i. i.term == term) t.intents

-- the last of a list
abbrev pub last_of : {A : Type 0} → List A → Option A
last_of [] = None
last_of (x ∷ []) = Some x
last_of (x ∷ y ∷ ys) = last_of (y ∷ ys)

abbrev pub last_intent : Topology → Option Intent
last_intent t = last_of t.intents

-- the last intent names this alias
abbrev pub IntendsLast : Topology → Alias → Type 0
IntendsLast t alias = IsSomeAnd (last_intent t) (λ i. i.alias ≡ alias)

-- under the lock of this term, another alias than this one is intended already
pub record IntendsAnother (t : Topology) (term : ℕ) (alias other : Alias) : Type 0 where
  pub held : is_held_in t term ≡ true
  pub stands : intent_of t term ≡ Some (record { term = term; alias = other })
  pub differs : other ≢ alias

-- ---- Take

abbrev pub taken_by : ℕ → Option Holder → Result ℕ LockTaken
taken_by term None = Ok (term + 1)
taken_by term (Some holder) = Err (record { term = term; actor = holder.actor })

-- the new term, or the term and the actor that the lock is held by
abbrev pub answer_take : Topology → Result ℕ LockTaken
answer_take t = taken_by t.term t.holder

-- a lock that is free is held in the next term
abbrev pub after_take : Topology → Holder → Topology
after_take t holder = if is_held t then t else record t { term = t.term + 1; holder = Some holder }

-- ---- Intend

-- an intent that stands admits its own alias alone
abbrev pub admitted_by : Option Intent → Alias → Result (Unit {0}) TopoFault
admitted_by None alias = Ok tt
admitted_by (Some i) alias = if alias_eq i.alias alias then Ok tt else Err (IntentStands i.alias)

abbrev pub answer_intend : Topology → ℕ → Alias → Result (Unit {0}) TopoFault
answer_intend t term alias = if is_held_in t term then admitted_by (intent_of t term) alias else lock_lost t

-- whether the call adds an intent: under the lock, the first one of the term
abbrev pub adds_intent : Topology → ℕ → Bool
adds_intent t term = is_held_in t term && is_none (intent_of t term)

abbrev pub after_intend : Topology → ℕ → Alias → Topology
after_intend t term alias =
    if adds_intent t term then record t { intents = t.intents ++ record { term = term; alias = alias } ∷ [] } else t

-- ---- Record

abbrev pub answer_record : Topology → ℕ → Result (Unit {0}) TopoFault
answer_record t term = held_or_lost t term

-- the record of an intent at a moment
abbrev pub record_of : Option Intent → ℕ → Option Record → Option Record
record_of None moment before = before
record_of (Some i) moment before = Some (record { alias = i.alias; term = i.term; moment = moment })

-- the alias and the term are those of the last intent, whose term may be below the holder's
abbrev pub after_record : Topology → ℕ → ℕ → Topology
after_record t term moment =
    if is_held_in t term then record t { recorded = record_of (last_intent t) moment t.recorded } else t

-- ---- Drain

abbrev pub answer_drain : Topology → ℕ → Result (Unit {0}) TopoFault
answer_drain t term = held_or_lost t term

-- the mark a beside the first mark b, in their order: before it, the same, or among the later ones, where it stands in `later`
abbrev pub marked_by : Ordering → Alias → Alias → List Alias → List Alias → List Alias
marked_by Less a b bs later = a ∷ b ∷ bs
marked_by Equal a b bs later = b ∷ bs
marked_by Greater a b bs later = b ∷ later

-- the marks with this one among them, in alias order: one that is there already is not put in twice
abbrev pub marked : List Alias → Alias → List Alias
marked [] a = a ∷ []
marked (b ∷ bs) a = marked_by (alias_cmp a b) a b bs (marked bs a)

-- only under the lock, and for good: no row takes a mark away
abbrev pub after_drain : Topology → ℕ → Alias → Topology
after_drain t term alias = if is_held_in t term then record t { drained = marked t.drained alias } else t

-- ---- Release and Lapse

-- only the holder's own term frees the lock
abbrev pub after_release : Topology → ℕ → Topology
after_release t term = if is_held_in t term then record t { holder = None } else t

abbrev pub after_lapse : Topology → Topology
after_lapse t = record t { holder = None }
