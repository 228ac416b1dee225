-- What holds of each world of a run: each tablet is sound, each message fits, and each row in a log is of the one intent of its term and stands in
-- the log of the tablet that it names.
use Rattle.std.proofs.Common.{◌≡◌, ℕ, zero, suc, ◌≤◌, Bool, true, false, ◌==◌, refl, ap, sym, subst, ◌∙◌, arith, List, [], ◌∷◌, cond, Option, Some, None}
use Rattle.std.proofs.lemmas.Bool.{false≢true}
use Rattle.std.proofs.lemmas.Bool.Decides.{nat_tests}
use Rattle.std.specs.List.{slice_get, find, AllByRecursion}
use Rattle.shard_base.specs.Lists.{IsFront}
use Rattle.shard_names.specs.declared.alias.Alias.{Alias}
use Rattle.shard_names.proofs.TabletLemmas.{alias_eq_is, alias_eq_itself}
use Rattle.gtid_sets.specs.declared.entry.Entry.{Entry}
use Rattle.gtid_sets.specs.declared.entry.Kind.TheVariants as kinds
use Rattle.topo_lock.specs.declared.intent.Intent.{Intent}
use Rattle.topo_lock.specs.Topology.{Topology, fresh, intent_of}
use Rattle.topo_lock.specs.Moves.{TopoMove, TopoMoves}
use Rattle.topo_lock.proofs.MoveLemmas.{intent_of_term_stays}
use Rattle.shard_calls.specs.declared.call.Call.{Call}
use Rattle.shard_calls.specs.declared.call.Call.TheVariants as calls
use Rattle.shard_calls.specs.declared.post.Content.{Content}
use Rattle.shard_calls.specs.declared.post.Content.TheVariants as contents
use Rattle.shard_calls.specs.declared.post.Message.{Message}
use Rattle.gtid_sets.specs.Logs.{row_or_zero}
use Rattle.shard_calls.specs.Laws.{IsSound, FitsTerm}
use Rattle.shard_calls.specs.World.{World, numbered}
use Rattle.shard_calls.specs.Evidence.{is_alias_of, intends}
use Rattle.shard_calls.proofs.ListLemmas.{slice_get-append}

-- ---- what is meant

-- the term intends the tablet
pub record IsIntended (topo : Topology) (u : ℕ) (a : Alias) : Type 0 where
  pub intent : intent_of topo u ≡ Some (record { term = u; alias = a })

-- the entry stands in the log
abbrev pub Held : List Entry → Entry → Type 0
Held log e = (n : ℕ) × (slice_get log n ≡ Some e)

-- a call has had its grounds
abbrev pub AskFits : Topology → ℕ → Alias → Call → Type 0
AskFits topo u a calls.Status = Unit {0}
AskFits topo u a calls.Stop = Unit {0}
AskFits topo u a calls.Demote = Unit {0}
AskFits topo u a (calls.Promote p) = IsIntended topo u a
AskFits topo u a (calls.SetSource source t p) = t ≤ u
AskFits topo u a calls.Feed = Unit {0}
AskFits topo u a (calls.WaitFor p until) = Unit {0}
AskFits topo u a (calls.WaitTold until) = Unit {0}

-- an entry on its way is that of its source's log, and no row of a later term
abbrev pub Fits : World → Content → Type 0
Fits w (contents.Asks c u a call) = AskFits w.topo u a call
Fits w (contents.Answers c asked a says) = Unit {0}
Fits w (contents.Feeds from to term before index x) = (numbered (w.tablets from).log index ≡ Some x) × (row_or_zero x ≤ term)
Fits w (contents.Acks from to term index) = Unit {0}

pub record RowFits (w : World) (u : ℕ) (c : Alias) (e : Entry) : Type 0 where
  pub intended : IsIntended w.topo u c
  pub at_home : Held (w.tablets c).log e

pub record IsSoundWorld (w : World) : Type 0 where
  pub tablets : (a : Alias) → IsSound (w.tablets a)
  pub topo : TopoMoves fresh w.topo
  pub post : (n : ℕ) (m : Message) → numbered w.post n ≡ Some m → Fits w m.content
  pub rows : (a : Alias) (n : ℕ) (e : Entry) (u : ℕ) (c : Alias) → slice_get (w.tablets a).log n ≡ Some e → e.kind ≡ kinds.Row u c → RowFits w u c e

-- ---- what stays

pub get_front : {A : Type 0} (xs ys : List A) (n : ℕ) (x : A) → IsFront xs ys → slice_get xs n ≡ Some x → slice_get ys n ≡ Some x
get_front {A} xs ys n x front h = subst (λ (l : List A). slice_get l n ≡ Some x) (sym front.split) (slice_get-append xs front.rest n x h)

pub numbered_front : {A : Type 0} (xs ys : List A) (n : ℕ) (x : A) → IsFront xs ys → numbered xs n ≡ Some x → numbered ys n ≡ Some x
numbered_front xs ys zero x front h = h
numbered_front xs ys (suc n) x front h = get_front xs ys n x front h

pub intended_stays : (s t : Topology) (u : ℕ) (a : Alias) → TopoMove s t → IsIntended s u a → IsIntended t u a
intended_stays s t u a move h = record {
  intent = intent_of_term_stays s t u (record { term = u; alias = a }) move h.intent;
}

-- a later world: the topology has moved on, and the logs begin as they were
pub record IsLater (w v : World) : Type 0 where
  pub topo : TopoMove w.topo v.topo
  pub logs : (a : Alias) → IsFront (w.tablets a).log (v.tablets a).log

ask_stays : (s t : Topology) (u : ℕ) (a : Alias) (call : Call) → TopoMove s t → AskFits s u a call → AskFits t u a call
ask_stays s t u a calls.Status move h = h
ask_stays s t u a calls.Stop move h = h
ask_stays s t u a calls.Demote move h = h
ask_stays s t u a (calls.Promote p) move h = intended_stays s t u a move h
ask_stays s t u a (calls.SetSource source term p) move h = h
ask_stays s t u a calls.Feed move h = h
ask_stays s t u a (calls.WaitFor p until) move h = h
ask_stays s t u a (calls.WaitTold until) move h = h

pub fits_stays : (w v : World) (content : Content) → IsLater w v → Fits w content → Fits v content
fits_stays w v (contents.Asks c u a call) later h = ask_stays w.topo v.topo u a call later.topo h
fits_stays w v (contents.Answers c asked a says) later h = h
fits_stays w v (contents.Feeds from to term before index x) later h =
    (numbered_front (w.tablets from).log (v.tablets from).log index x (later.logs from) h.0, h.1)
fits_stays w v (contents.Acks from to term index) later h = h

pub row_stays : (w v : World) (u : ℕ) (c : Alias) (e : Entry) → IsLater w v → RowFits w u c e → RowFits v u c e
row_stays w v u c e later h = record {
  intended = intended_stays w.topo v.topo u c later.topo h.intended;
  at_home = (h.at_home.0, get_front (w.tablets c).log (v.tablets c).log h.at_home.0 e (later.logs c) h.at_home.1);
}

-- ---- what calls and tablets have

-- a call that had its grounds fits its term
pub ask_term : (topo : Topology) (u : ℕ) (a : Alias) (call : Call) → AskFits topo u a call → FitsTerm u call
ask_term topo u a calls.Status h = tt
ask_term topo u a calls.Stop h = tt
ask_term topo u a calls.Demote h = tt
ask_term topo u a (calls.Promote p) h = tt
ask_term topo u a (calls.SetSource source t p) h = h
ask_term topo u a calls.Feed h = tt
ask_term topo u a (calls.WaitFor p until) h = tt
ask_term topo u a (calls.WaitTold until) h = tt

-- ---- the first intent

intent_is : (i : Intent) (u : ℕ) (a : Alias) → i.term ≡ u → i.alias ≡ a → i ≡ record { term = u; alias = a }
intent_is i u a p q =
    ap (λ (t : ℕ). let x : Intent = record { term = t; alias = i.alias } in x) p ∙ ap (λ (b : Alias). let x : Intent = record { term = u; alias = b } in x) q

-- what is found passes the test
find_passes : (p : Intent → Bool) (is : List Intent) (i : Intent) → find p is ≡ Some i → p i ≡ true
find_passes p [] i h = absurd (let none : None ≡ Some i = h in cc)
find_passes p (x ∷ is) i h = of_test (p x) refl h (λ k. find_passes p is i k)
  where
    of_test : (b : Bool) → p x ≡ b → cond b (Some x) (find p is) ≡ Some i → (find p is ≡ Some i → p i ≡ true) → p i ≡ true
    of_test true e k rest = let same : x ≡ i = (let some : Some x ≡ Some i = k in cc) in subst (λ (y : Intent). p y ≡ true) same e
    of_test false e k rest = rest k

-- what is found is among them
found_all : (P : Intent → Type 0) (p : Intent → Bool) (is : List Intent) (i : Intent) → find p is ≡ Some i → AllByRecursion P is → P i
found_all P p [] i h all = absurd (let none : None ≡ Some i = h in cc)
found_all P p (x ∷ is) i h all = of_test (p x) h (λ k. found_all P p is i k all.1)
  where
    of_test : (b : Bool) → cond b (Some x) (find p is) ≡ Some i → (find p is ≡ Some i → P i) → P i
    of_test true k rest = let same : x ≡ i = (let some : Some x ≡ Some i = k in cc) in subst P same all.0
    of_test false k rest = rest k

same_term : (i : Intent) (u : ℕ) → (i.term == u) ≡ true → i.term ≡ u
same_term i u h = grind (arith, nat_tests)

intent_found : (o : Option Intent) (topo : Topology) (u : ℕ) (a : Alias) → intent_of topo u ≡ o → is_alias_of o a ≡ true
    → o ≡ Some (record { term = u; alias = a })
intent_found None topo u a found is = absurd (false≢true is)
intent_found (Some i) topo u a found is =
    let term = same_term i u (find_passes (λ j. j.term == u) topo.intents i found) in
    ap (λ (x : Intent). Some x) (intent_is i u a term (alias_eq_is i.alias a is))

-- what the evidence says of the intent
pub intended_by : (topo : Topology) (u : ℕ) (a : Alias) → intends topo u a ≡ true → IsIntended topo u a
intended_by topo u a is = record { intent = intent_found (intent_of topo u) topo u a refl is }

-- and what is intended is evidence
pub intends_it : (topo : Topology) (u : ℕ) (a : Alias) → IsIntended topo u a → intends topo u a ≡ true
intends_it topo u a h = ap (λ (o : Option Intent). is_alias_of o a) h.intent ∙ alias_eq_itself a
