-- The laws of the lock with terms: what holds of every topology, and over every list of steps. After Sougoumarane's "Consensus
-- algorithms at scale": a term is used once, it names one leader, and who held an older one is found out. A drained tablet stays
-- drained (Vitess manual).
use Rattle.std.specs.Prelude.{◌≡◌, ◌≢◌, ℕ, ◌<◌, ◌≤◌, true, false, List, [], ◌∷◌, ⊤, Some}
use Rattle.std.specs.List.{AllByRecursion}
use Rattle.std.specs.declared.cmp.Ordering.TheVariants.{Less}
use Rattle.shard_base.specs.Lists.{IsFront}
use Rattle.shard_names.specs.declared.alias.Alias.{Alias}
use Rattle.shard_names.specs.Tablets.{alias_cmp, is_among}
use Rattle.topo_lock.specs.declared.intent.Intent.{Intent}
use Rattle.topo_lock.specs.Topology.{Topology, fresh, is_held_in, intent_of, last_intent, answer_intend, after_intend, lock_lost}
use Rattle.topo_lock.specs.Moves.{TopoMoves}

-- ---- facts about the intents

-- no two intents have one term
abbrev pub EachTermOnce : List Intent → Type 0
EachTermOnce [] = ⊤
EachTermOnce (i ∷ is) = AllByRecursion (λ j. i.term ≢ j.term) is × EachTermOnce is

-- each intent's term is above those before it
abbrev pub TermsRise : List Intent → Type 0
TermsRise [] = ⊤
TermsRise (i ∷ is) = AllByRecursion (λ j. i.term < j.term) is × TermsRise is

-- no intent's term is above this one
abbrev pub TermsWithin : ℕ → List Intent → Type 0
TermsWithin term intents = AllByRecursion (λ i. i.term ≤ term) intents

-- ---- facts about the marks

-- each mark is above those before it, in alias order
abbrev pub MarksRise : List Alias → Type 0
MarksRise [] = ⊤
MarksRise (a ∷ ms) = AllByRecursion (λ b. alias_cmp a b ≡ Less) ms × MarksRise ms

-- no mark stands twice
abbrev pub EachMarkOnce : List Alias → Type 0
EachMarkOnce [] = ⊤
EachMarkOnce (a ∷ ms) = (is_among ms a ≡ false) × EachMarkOnce ms

-- ---- the laws, over one step or over any number of steps

-- a relation of a topology to a later one
abbrev pub Later : Type 1
Later = Topology → Topology → Type 0

-- the term never falls
abbrev pub TermNeverFalls : Later → Type 0
TermNeverFalls R = (s t : Topology) → R s t → s.term ≤ t.term

-- intents are added at the end, and none is taken away or changed
abbrev pub IntentsStay : Later → Type 0
IntentsStay R = (s t : Topology) → R s t → IsFront s.intents t.intents

-- what a term intends, it intends for good
abbrev pub IntentOfTermStays : Later → Type 0
IntentOfTermStays R = (s t : Topology) (term : ℕ) (i : Intent) → R s t → intent_of s term ≡ Some i → intent_of t term ≡ Some i

-- where no two intents had one term, no two have
abbrev pub KeepsEachTermOnce : Later → Type 0
KeepsEachTermOnce R = (s t : Topology) → R s t → EachTermOnce s.intents → EachTermOnce t.intents

-- where no intent's term was above the topology's, none is
abbrev pub KeepsTermsWithin : Later → Type 0
KeepsTermsWithin R = (s t : Topology) → R s t → TermsWithin s.term s.intents → TermsWithin t.term t.intents

-- where the terms rose, and none was above the topology's, they rise
abbrev pub KeepsTermsRise : Later → Type 0
KeepsTermsRise R = (s t : Topology) → R s t → TermsWithin s.term s.intents → TermsRise s.intents → TermsRise t.intents

-- what a term below the topology's intends, if anything, is settled for good
abbrev pub PastTermsAreSettled : Later → Type 0
PastTermsAreSettled R = (s t : Topology) (term : ℕ) → R s t → term < s.term → intent_of t term ≡ intent_of s term

-- a lock that is no longer held in a term is never held in it again
abbrev pub LostLockStaysLost : Later → Type 0
LostLockStaysLost R = (s t : Topology) (term : ℕ) → R s t → term ≤ s.term → is_held_in s term ≡ false → is_held_in t term ≡ false

-- a mark, once there, stays
abbrev pub MarksStay : Later → Type 0
MarksStay R = (s t : Topology) (a : Alias) → R s t → is_among s.drained a ≡ true → is_among t.drained a ≡ true

-- where the marks were in alias order, they are
abbrev pub KeepsMarksRise : Later → Type 0
KeepsMarksRise R = (s t : Topology) → R s t → MarksRise s.drained → MarksRise t.drained

-- ---- the laws of every topology that steps lead to from the fresh one

-- no two intents have one term
abbrev pub OneIntentATerm : Type 0
OneIntentATerm = (t : Topology) → TopoMoves fresh t → EachTermOnce t.intents

-- each intent's term is above those before it, and none is above the topology's
abbrev pub IntentsAreInOrder : Type 0
IntentsAreInOrder = (t : Topology) → TopoMoves fresh t → TermsRise t.intents × TermsWithin t.term t.intents

-- no intent has a greater term than the last one
abbrev pub LastIntentIsGreatest : Type 0
LastIntentIsGreatest =
    (t : Topology) (i : Intent) → TopoMoves fresh t → last_intent t ≡ Some i → TermsWithin i.term t.intents

-- the marks are in alias order
abbrev pub MarksAreInOrder : Type 0
MarksAreInOrder = (t : Topology) → TopoMoves fresh t → MarksRise t.drained

-- no mark stands twice
abbrev pub OneMarkATablet : Type 0
OneMarkATablet = (t : Topology) → TopoMoves fresh t → EachMarkOnce t.drained

-- ---- a law of every topology

-- an intent in another term than the topology's is refused, and changes nothing
abbrev pub OtherTermsIntendNothing : Type 0
OtherTermsIntendNothing =
    (t : Topology) (term : ℕ) (alias : Alias) → term ≢ t.term → (answer_intend t term alias ≡ lock_lost t) × (after_intend t term alias ≡ t)
