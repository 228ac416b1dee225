-- Where a tablet stands, by its place in the list and by its alias.
use Rattle.std.proofs.Common.{◌≡◌, ◌≢◌, ℕ, zero, suc, ◌+◌, ◌<◌, ◌≤◌, List, [], ◌∷◌, Bool, true, false, Some, None, cond, not, ltb, length, get_or, set, refl, ap, sym, ◌∙◌, arith}
use Rattle.std.proofs.lemmas.Bool.{false≢true}
use Rattle.std.specs.List.{position_or_len, position}
use Rattle.std.specs.Option.{MatchOption}
use borrow.Author.Tests.{ltb-true, ltb-false}
use Rattle.shard_names.specs.Tablets.{alias_eq, tablet_of, is_declared}
use Rattle.shard_names.proofs.TabletLemmas.{alias_eq_is, alias_eq_itself}
use Rattle.shard_names.specs.declared.alias.Alias.{Alias}
use Rattle.shard_names.specs.declared.tablet.Tablet.{Tablet}
use Rattle.shard_calls.specs.Tablets.{TabletState, opened}
use Rattle.shard_calls.specs.World.{at_tablet}
use Rattle.tablet_manager.specs.Managed.{Managed, state_of}
use Rattle.shard_state.specs.State.{tablets_of, state_at}
use Rattle.shard_state.specs.Managers.{manager_of, IsAt, IsNowhere}

differs : (a b : Alias) → alias_eq a b ≡ false → a ≢ b
differs a b apart same = false≢true (sym apart ∙ ap (λ (c : Alias). alias_eq a c) (sym same) ∙ alias_eq_itself a)

-- the place that a search finds
search_one : (p : Managed) (ps : List Managed) (a : Alias) (t : Bool) → alias_eq p.me.alias a ≡ t
    → position_or_len (λ q. alias_eq q.me.alias a) (p ∷ ps) ≡ cond t 0 (suc (position_or_len (λ q. alias_eq q.me.alias a) ps))
search_one p ps a true is = ap (λ (b : Bool). cond (not b) (1 + position_or_len (λ q. alias_eq q.me.alias a) ps) 0) is
search_one p ps a false is =
    let rest : ℕ = position_or_len (λ q. alias_eq q.me.alias a) ps in
    let e : 1 + rest ≡ suc rest = omega arith in
    ap (λ (b : Bool). cond (not b) (1 + position_or_len (λ q. alias_eq q.me.alias a) ps) 0) is ∙ e

at_one : (p : Managed) (ps : List Managed) (a : Alias) (t : Bool) → alias_eq p.me.alias a ≡ t → (k : ℕ)
    → k ≡ cond t 0 (suc (position_or_len (λ q. alias_eq q.me.alias a) ps)) → k < length (p ∷ ps)
    → (position_or_len (λ q. alias_eq q.me.alias a) ps < length ps → IsAt ps a (position_or_len (λ q. alias_eq q.me.alias a) ps))
    → IsAt (p ∷ ps) a k
at_one p ps a true is k e short rest = rw e (alias_eq_is p.me.alias a is)
at_one p ps a false is k e short rest = rw e (differs p.me.alias a is, rest (omega arith))

is_at : (ps : List Managed) (a : Alias) → position_or_len (λ p. alias_eq p.me.alias a) ps < length ps
    → IsAt ps a (position_or_len (λ p. alias_eq p.me.alias a) ps)
is_at [] a short = absurd (omega arith)
is_at (p ∷ ps) a short = at_one p ps a (alias_eq p.me.alias a) refl _ (search_one p ps a _ refl) short (is_at ps a)

nowhere_one : (p : Managed) (ps : List Managed) (a : Alias) (t : Bool) → alias_eq p.me.alias a ≡ t
    → suc (length ps) ≤ cond t 0 (suc (position_or_len (λ q. alias_eq q.me.alias a) ps))
    → (length ps ≤ position_or_len (λ q. alias_eq q.me.alias a) ps → IsNowhere ps a) → IsNowhere (p ∷ ps) a
nowhere_one p ps a true is long rest = absurd (omega arith)
nowhere_one p ps a false is long rest = (differs p.me.alias a is, rest (omega arith))

is_nowhere : (ps : List Managed) (a : Alias) → length ps ≤ position_or_len (λ p. alias_eq p.me.alias a) ps → IsNowhere ps a
is_nowhere [] a long = tt
is_nowhere (p ∷ ps) a long =
    nowhere_one p ps a (alias_eq p.me.alias a) refl (let at = search_one p ps a _ refl in omega (arith, at)) (is_nowhere ps a)

by_test : (ps : List Managed) (a : Alias) (t : Bool) → ltb (position_or_len (λ p. alias_eq p.me.alias a) ps) (length ps) ≡ t
    → MatchOption (cond t (Some (position_or_len (λ p. alias_eq p.me.alias a) ps)) None) (IsNowhere ps a) (λ k. (k < length ps) × IsAt ps a k)
by_test ps a true is = let short = ltb-true _ _ is in (short, is_at ps a short)
by_test ps a false is = is_nowhere ps a (ltb-false _ _ is)

-- what a search for the tablet finds
pub stands : (ps : List Managed) (a : Alias) → MatchOption (position (λ m. alias_eq m.me.alias a) ps) (IsNowhere ps a) (λ k. (k < length ps) × IsAt ps a k)
stands ps a = by_test ps a _ refl

no_test : (a b : Alias) (t : Bool) → alias_eq a b ≡ t → a ≢ b → t ≡ false
no_test a b true is apart = absurd (apart (alias_eq_is a b is))
no_test a b false is apart = refl

pub not_equal : (a b : Alias) → a ≢ b → alias_eq a b ≡ false
not_equal a b apart = no_test a b _ refl apart

-- the tablet at that place, and its state
pub tablet_at : (ps : List Managed) (a : Alias) (k : ℕ) (d : Managed) → IsAt ps a k → tablet_of (tablets_of ps) a ≡ Some (get_or ps k d).me
tablet_at [] a k d h = absurd h
tablet_at (p ∷ ps) a zero d h = rw (← h) (rw (alias_eq_itself p.me.alias) refl)
tablet_at (p ∷ ps) a (suc k) d h = rw (not_equal p.me.alias a h.0) (tablet_at ps a k d h.1)

pub manager_at : (ps : List Managed) (a : Alias) (k : ℕ) (d : Managed) → IsAt ps a k → manager_of ps a ≡ Some (get_or ps k d)
manager_at [] a k d h = absurd h
manager_at (p ∷ ps) a zero d h = rw (← h) (rw (alias_eq_itself p.me.alias) refl)
manager_at (p ∷ ps) a (suc k) d h = rw (not_equal p.me.alias a h.0) (manager_at ps a k d h.1)

pub no_manager : (ps : List Managed) (a : Alias) → IsNowhere ps a → manager_of ps a ≡ None
no_manager [] a h = refl
no_manager (p ∷ ps) a h = rw (not_equal p.me.alias a h.0) (no_manager ps a h.1)

pub no_state : (ps : List Managed) (a : Alias) → IsNowhere ps a → opened ≡ state_at ps a
no_state [] a h = refl
no_state (p ∷ ps) a h = rw (not_equal p.me.alias a h.0) (no_state ps a h.1)

pub declared_at : (ps : List Managed) (a : Alias) (k : ℕ) → IsAt ps a k → is_declared (tablets_of ps) a ≡ true
declared_at [] a k h = absurd h
declared_at (p ∷ ps) a zero h = rw (← h) (rw (alias_eq_itself p.me.alias) refl)
declared_at (p ∷ ps) a (suc k) h = rw (not_equal p.me.alias a h.0) (declared_at ps a k h.1)

pub state_here : (ps : List Managed) (a : Alias) (k : ℕ) (d : Managed) → IsAt ps a k → state_at ps a ≡ state_of (get_or ps k d)
state_here [] a k d h = absurd h
state_here (p ∷ ps) a zero d h = rw (← h) (rw (alias_eq_itself p.me.alias) refl)
state_here (p ∷ ps) a (suc k) d h = rw (not_equal p.me.alias a h.0) (state_here ps a k d h.1)

pub no_tablet : (ps : List Managed) (a : Alias) → IsNowhere ps a → tablet_of (tablets_of ps) a ≡ None
no_tablet [] a h = refl
no_tablet (p ∷ ps) a h = rw (not_equal p.me.alias a h.0) (no_tablet ps a h.1)

pub nothing_declared : (ps : List Managed) (a : Alias) → IsNowhere ps a → is_declared (tablets_of ps) a ≡ true → ⊥
nothing_declared ps a h d = false≢true (let e = no_tablet ps a h in rw e at d)

-- what is read at that place
pub manager_read : (ps : List Managed) (a : Alias) (k : ℕ) (m : Managed) → IsAt ps a k → m ≡ get_or ps k m → Some m ≡ manager_of ps a
manager_read ps a k m h e = ap (λ (x : Managed). Some x) e ∙ sym (manager_at ps a k m h)

pub state_read : (ps : List Managed) (a : Alias) (k : ℕ) (m : Managed) → IsAt ps a k → m ≡ get_or ps k m → state_of m ≡ state_at ps a
state_read ps a k m h e = ap state_of e ∙ sym (state_here ps a k m h)

pub tablet_read : (ps : List Managed) (a : Alias) (k : ℕ) (m : Managed) (t : Tablet) → IsAt ps a k → m ≡ get_or ps k m → t ≡ m.me → Some t ≡ tablet_of (tablets_of ps) a
tablet_read ps a k m t h e is = ap (λ (x : Tablet). Some x) (is ∙ ap (λ (x : Managed). x.me) e) ∙ sym (tablet_at ps a k m h)

-- a place in a new state
pub tablets_set : (ps : List Managed) (k : ℕ) (q d : Managed) → k < length ps → q.me ≡ (get_or ps k d).me → tablets_of (set ps k q) ≡ tablets_of ps
tablets_set [] k q d short same = absurd (omega arith)
tablets_set (p ∷ ps) zero q d short same = ap (λ (t : Tablet). t ∷ tablets_of ps) same
tablets_set (p ∷ ps) (suc k) q d short same = ap (λ (ts : List Tablet). p.me ∷ ts) (tablets_set ps k q d (omega arith) same)

first_set : (ps : List Managed) (a b : Alias) (p q : Managed) (t : Bool) → alias_eq a b ≡ t → p.me.alias ≡ a → q.me.alias ≡ a
    → state_at (q ∷ ps) b ≡ at_tablet (state_at (p ∷ ps)) a (state_of q) b
first_set ps a b p q true is old new = rw (new, is) refl
first_set ps a b p q false is old new = rw (new, old, is) refl

next_set : (ps : List Managed) (a b : Alias) (k : ℕ) (p q : Managed) (t : Bool) → alias_eq a b ≡ t → p.me.alias ≢ a
    → state_at (set ps k q) b ≡ at_tablet (state_at ps) a (state_of q) b
    → state_at (p ∷ set ps k q) b ≡ at_tablet (state_at (p ∷ ps)) a (state_of q) b
next_set ps a b k p q true is apart rest =
    let other : alias_eq p.me.alias b ≡ false = ap (λ (c : Alias). alias_eq p.me.alias c) (sym (alias_eq_is a b is)) ∙ not_equal p.me.alias a apart in
    rw (other, is) (rw is at rest)
next_set ps a b k p q false is apart rest = rw is (ap (λ (s : TabletState). cond (alias_eq p.me.alias b) (state_of p) s) (rw is at rest))

pub state_set : (ps : List Managed) (a : Alias) (k : ℕ) (q d : Managed) → IsAt ps a k → q.me ≡ (get_or ps k d).me
    → (b : Alias) → state_at (set ps k q) b ≡ at_tablet (state_at ps) a (state_of q) b
state_set [] a k q d h same b = absurd h
state_set (p ∷ ps) a zero q d h same b = first_set ps a b p q (alias_eq a b) refl h (ap (λ (t : Tablet). t.alias) same ∙ h)
state_set (p ∷ ps) a (suc k) q d h same b = next_set ps a b k p q (alias_eq a b) refl h.0 (state_set ps a k q d h.1 same b)
