-- Where an alias stands in a list, and the index beside it.
use Rattle.std.proofs.Common.{◌≡◌, ◌≢◌, ℕ, zero, suc, ◌+◌, ◌<◌, ◌≤◌, max, List, [], ◌∷◌, Bool, true, false, Some, None, cond, not, ltb, length, get_or, set, replicate, refl, ap, sym, subst, ◌∙◌, arith}
use Rattle.std.proofs.lemmas.Bool.{false≢true}
use Rattle.std.specs.List.{position, position_or_len}
use Rattle.std.specs.Option.{MatchOption}
use borrow.Author.Tests.{ltb-true, ltb-false}
use Rattle.shard_names.specs.Tablets.{alias_eq, is_among}
use Rattle.shard_names.proofs.TabletLemmas.{alias_eq_is, alias_eq_itself}
use Rattle.shard_names.specs.declared.alias.Alias.{Alias}
use Rattle.replication.specs.Acks.{acked_of}
use Rattle.replication.specs.Places.{IsAt, IsNowhere}

differs : (a b : Alias) → alias_eq a b ≡ false → a ≢ b
differs a b apart same = false≢true (sym apart ∙ ap (λ (c : Alias). alias_eq a c) (sym same) ∙ alias_eq_itself a)

no_test : (a b : Alias) (t : Bool) → alias_eq a b ≡ t → a ≢ b → t ≡ false
no_test a b true is apart = absurd (apart (alias_eq_is a b is))
no_test a b false is apart = refl

pub not_equal : (a b : Alias) → a ≢ b → alias_eq a b ≡ false
not_equal a b apart = no_test a b _ refl apart

-- ---- the place that a search finds

search_one : (x : Alias) (xs : List Alias) (a : Alias) (t : Bool) → alias_eq x a ≡ t
    → position_or_len (λ y. alias_eq y a) (x ∷ xs) ≡ cond t 0 (suc (position_or_len (λ y. alias_eq y a) xs))
search_one x xs a true is = ap (λ (b : Bool). cond (not b) (1 + position_or_len (λ y. alias_eq y a) xs) 0) is
search_one x xs a false is =
    let rest : ℕ = position_or_len (λ y. alias_eq y a) xs in
    let e : 1 + rest ≡ suc rest = omega arith in
    ap (λ (b : Bool). cond (not b) (1 + position_or_len (λ y. alias_eq y a) xs) 0) is ∙ e

at_one : (x : Alias) (xs : List Alias) (a : Alias) (t : Bool) → alias_eq x a ≡ t → (k : ℕ)
    → k ≡ cond t 0 (suc (position_or_len (λ y. alias_eq y a) xs)) → k < length (x ∷ xs)
    → (position_or_len (λ y. alias_eq y a) xs < length xs → IsAt xs a (position_or_len (λ y. alias_eq y a) xs))
    → IsAt (x ∷ xs) a k
at_one x xs a true is k e short rest = rw e (alias_eq_is x a is)
at_one x xs a false is k e short rest = rw e (differs x a is, rest (omega arith))

is_at : (xs : List Alias) (a : Alias) → position_or_len (λ y. alias_eq y a) xs < length xs → IsAt xs a (position_or_len (λ y. alias_eq y a) xs)
is_at [] a short = absurd (omega arith)
is_at (x ∷ xs) a short = at_one x xs a (alias_eq x a) refl _ (search_one x xs a _ refl) short (is_at xs a)

nowhere_one : (x : Alias) (xs : List Alias) (a : Alias) (t : Bool) → alias_eq x a ≡ t
    → suc (length xs) ≤ cond t 0 (suc (position_or_len (λ y. alias_eq y a) xs))
    → (length xs ≤ position_or_len (λ y. alias_eq y a) xs → IsNowhere xs a) → IsNowhere (x ∷ xs) a
nowhere_one x xs a true is long rest = absurd (omega arith)
nowhere_one x xs a false is long rest = (differs x a is, rest (omega arith))

is_nowhere : (xs : List Alias) (a : Alias) → length xs ≤ position_or_len (λ y. alias_eq y a) xs → IsNowhere xs a
is_nowhere [] a long = tt
is_nowhere (x ∷ xs) a long =
    nowhere_one x xs a (alias_eq x a) refl (let at = search_one x xs a _ refl in omega (arith, at)) (is_nowhere xs a)

by_test : (xs : List Alias) (a : Alias) (t : Bool) → ltb (position_or_len (λ y. alias_eq y a) xs) (length xs) ≡ t
    → MatchOption (cond t (Some (position_or_len (λ y. alias_eq y a) xs)) None) (IsNowhere xs a) (λ k. (k < length xs) × IsAt xs a k)
by_test xs a true is = let short = ltb-true _ _ is in (short, is_at xs a short)
by_test xs a false is = is_nowhere xs a (ltb-false _ _ is)

pub stands : (xs : List Alias) (a : Alias) → MatchOption (position (λ y. alias_eq y a) xs) (IsNowhere xs a) (λ k. (k < length xs) × IsAt xs a k)
stands xs a = by_test xs a _ refl

-- what is among them stands somewhere
pub somewhere : (xs : List Alias) (a : Alias) → IsNowhere xs a → is_among xs a ≡ true → ⊥
somewhere [] a none among = false≢true among
somewhere (x ∷ xs) a none among =
    let other : alias_eq a x ≡ false = not_equal a x (λ e. none.0 (sym e)) in
    somewhere xs a none.1 (rw other at among)

-- ---- the indexes

-- nothing is acknowledged where each index is 0
pub acked-zero : (xs : List Alias) (is : List ℕ) (a : Alias) → ((k : ℕ) → k < length is → get_or is k 0 ≡ 0) → acked_of xs is a ≡ 0
acked-zero [] is a zeros = refl
acked-zero (x ∷ xs) [] a zeros = refl
acked-zero (x ∷ xs) (i ∷ is) a zeros =
    elim (alias_eq a x) as (λ b. cond b i (acked_of xs is a) ≡ 0) [
      | true ↦ zeros 0 (omega arith)
      | false ↦ acked-zero xs is a (λ k short. zeros (suc k) (omega arith))
    ]

pub acked-replicate : (xs : List Alias) (n : ℕ) (a : Alias) → acked_of xs (replicate n 0) a ≡ 0
acked-replicate [] n a = refl
acked-replicate (x ∷ xs) zero a = refl
acked-replicate (x ∷ xs) (suc n) a =
    elim (alias_eq a x) as (λ b. cond b 0 (acked_of xs (replicate n 0) a) ≡ 0) [
      | true ↦ refl
      | false ↦ acked-replicate xs n a
    ]

here : (b : Bool) (i index rest : ℕ) → cond b (max i index) rest ≡ cond b (max index (cond b i rest)) (cond b i rest)
here true i index rest = omega arith
here false i index rest = refl

there : (x from a : Alias) (b c : Bool) (i index rest more : ℕ) → alias_eq a x ≡ b → alias_eq a from ≡ c → x ≢ from → more ≡ cond c (max index rest) rest
    → cond b i more ≡ cond c (max index (cond b i rest)) (cond b i rest)
there x from a true true i index rest more one two apart next = absurd (apart (sym (alias_eq_is a x one) ∙ alias_eq_is a from two))
there x from a true false i index rest more one two apart next = refl
there x from a false c i index rest more one two apart next = next

-- one index raised
pub acked-raised : (xs : List Alias) (is : List ℕ) (from : Alias) (k index : ℕ) (a : Alias) → length is ≡ length xs → IsAt xs from k
    → acked_of xs (set is k (max (get_or is k 0) index)) a ≡ cond (alias_eq a from) (max index (acked_of xs is a)) (acked_of xs is a)
acked-raised [] is from k index a same h = absurd h
acked-raised (x ∷ xs) [] from k index a same h = absurd (omega arith)
acked-raised (x ∷ xs) (i ∷ is) from zero index a same h =
    subst (λ (f : Alias). cond (alias_eq a x) (max i index) (acked_of xs is a)
    ≡ cond (alias_eq a f) (max index (cond (alias_eq a x) i (acked_of xs is a))) (cond (alias_eq a x) i (acked_of xs is a))) h (here (alias_eq a x) i index (acked_of xs is a))
acked-raised (x ∷ xs) (i ∷ is) from (suc k) index a same h =
    there x from a (alias_eq a x) (alias_eq a from) i index (acked_of xs is a) _ refl refl h.0 (acked-raised xs is from k index a (omega arith) h.1)

-- the index at the place of an alias
pub acked-at : (xs : List Alias) (is : List ℕ) (a : Alias) (k : ℕ) → length is ≡ length xs → IsAt xs a k → get_or is k 0 ≡ acked_of xs is a
acked-at [] is a k same h = absurd h
acked-at (x ∷ xs) [] a k same h = absurd (omega arith)
acked-at (x ∷ xs) (i ∷ is) a zero same h =
    let here : alias_eq a x ≡ true = subst (λ (b : Alias). alias_eq b x ≡ true) h (alias_eq_itself x) in
    rw here refl
acked-at (x ∷ xs) (i ∷ is) a (suc k) same h =
    let other : alias_eq a x ≡ false = not_equal a x (λ e. h.0 (sym e)) in
    rw other (acked-at xs is a k (omega arith) h.1)

pub acked-nowhere : (xs : List Alias) (is : List ℕ) (a : Alias) → IsNowhere xs a → 0 ≡ acked_of xs is a
acked-nowhere [] is a none = refl
acked-nowhere (x ∷ xs) [] a none = refl
acked-nowhere (x ∷ xs) (i ∷ is) a none =
    let other : alias_eq a x ≡ false = not_equal a x (λ e. none.0 (sym e)) in
    rw other (acked-nowhere xs is a none.1)
