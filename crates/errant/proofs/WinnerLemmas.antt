-- Where no two of the leading tablets are apart, one of them has all that they have.
use Rattle.std.proofs.Common.{◌≡◌, ◌≢◌, ◌∙◌, ◌⊎◌, inl, inr, refl, sym, ap, subst, ℕ, zero, Bool, true, false, not, ◌&&◌, ◌||◌, ◌==◌, cond, List, [], ◌∷◌, Option, Some, None, is_none, map, max, filter, find, arith}
use Rattle.std.proofs.Math.Nat.{max-zero}
use Rattle.std.proofs.lemmas.Bool.{false≢true, cases_lt}
use Rattle.std.proofs.lemmas.Bool.Decides.{Decides-eqb}
use Rattle.std.specs.List.{list_any, list_all}
use Rattle.shard_names.proofs.TabletLemmas.{both_left, both_right}
use Rattle.gtid_sets.specs.declared.held.Held.{Held}
use Rattle.gtid_sets.specs.Position.{Position, covers, greatest}
use Rattle.gtid_sets.specs.Winner.{newest_of, leading, covers_all, winner, is_apart, apart_with, first_apart}
use Rattle.gtid_sets.proofs.BoolLemmas.{or_left, or_right}
use Rattle.gtid_sets.proofs.PositionLemmas.{covers-itself, covers-further}

both : (a b : Bool) → a ≡ true → b ≡ true → (a && b) ≡ true
both true b p q = q
both false b p q = p

-- ---- a test that finds nothing

found_not : (b : Bool) (x : Held) (later : Option Held) (any : Bool) → cond b (Some x) later ≡ None → (b || any) ≡ true → (later ≡ None → any ≡ true → ⊥) → ⊥
found_not true x later any e t rest = false≢true (ap is_none e)
found_not false x later any e t rest = rest e t

find_none : (p : Held → Bool) (xs : List Held) → find p xs ≡ None → list_any p xs ≡ true → ⊥
find_none p [] e t = false≢true t
find_none p (x ∷ xs) e t = found_not (p x) x (find p xs) (list_any p xs) e t (find_none p xs)

abbrev is_empty : List Held → Bool
is_empty [] = true
is_empty (x ∷ xs) = false

kept_not : (b : Bool) (x : Held) (later : List Held) (any : Bool) → cond b (x ∷ later) later ≡ [] → (b || any) ≡ true → (later ≡ [] → any ≡ true → ⊥) → ⊥
kept_not true x later any e t rest = false≢true (ap is_empty e)
kept_not false x later any e t rest = rest e t

filter_none : (p : Held → Bool) (xs : List Held) → filter p xs ≡ [] → list_any p xs ≡ true → ⊥
filter_none p [] e t = false≢true t
filter_none p (x ∷ xs) e t = kept_not (p x) x (filter p xs) (list_any p xs) e t (filter_none p xs)

-- ---- some tablet leads

max_cases : (m n : ℕ) → (max m n ≡ m) ⊎ (max m n ≡ n)
max_cases m n = elim (cases_lt m n) [ inl l ↦ inr (omega arith) | inr l ↦ inl (omega arith) ]

same_number : (m n : ℕ) → m ≡ n → (m == n) ≡ true
same_number m n e = (Decides-eqb m n).1 e

attained : (n : ℕ) (h : Held) (hs : List Held) → newest_of (h ∷ hs) ≡ n → list_any (λ x. x.newest == n) (h ∷ hs) ≡ true
attained n h [] e = or_left (h.newest == n) false (same_number h.newest n (sym (max-zero h.newest) ∙ e))
attained n h (k ∷ ks) e = elim (max_cases h.newest (newest_of (k ∷ ks))) [
  | inl here ↦ or_left (h.newest == n) (list_any (λ x. x.newest == n) (k ∷ ks)) (same_number h.newest n (sym here ∙ e))
  | inr there ↦ or_right (h.newest == n) (list_any (λ x. x.newest == n) (k ∷ ks)) (attained n k ks (sym there ∙ e))
]

some_leads : (helds : List Held) → helds ≢ [] → leading helds ≢ []
some_leads [] some = λ e. some refl
some_leads (h ∷ hs) some = λ e. filter_none (λ x. x.newest == newest_of (h ∷ hs)) (h ∷ hs) e (attained (newest_of (h ∷ hs)) h hs refl)

-- ---- one of them has all

record Best (xs : List Held) : Type 0 where
  best : Held
  among : (p : Held → Bool) → p best ≡ true → list_any p xs ≡ true
  whole : covers_all xs best ≡ true

all_through : (p q : Position) (xs : List Held) → covers p q ≡ true → list_all (λ o. covers q o.position) xs ≡ true → list_all (λ o. covers p o.position) xs ≡ true
all_through p q [] has all = refl
all_through p q (x ∷ xs) has all =
    both (covers p x.position) (list_all (λ o. covers p o.position) xs)
    (covers-further p q x.position has (both_left (covers q x.position) (list_all (λ o. covers q o.position) xs) all))
    (all_through p q xs has (both_right (covers q x.position) (list_all (λ o. covers q o.position) xs) all))

apart_so : (a b : Bool) → a ≡ false → b ≡ false → (not a && not b) ≡ true
apart_so a b e f = rw (e, f) refl

further : (h : Held) (xs : List Held) → Best xs → find (is_apart h) xs ≡ None → Best (h ∷ xs)
further h xs b none =
    elim (covers b.best.position h.position) as (λ (c : Bool). covers b.best.position h.position ≡ c → Best (h ∷ xs)) [
      | true ↦ λ has. record {
        best = b.best;
        among = λ p is. or_right (p h) (list_any p xs) (b.among p is);
        whole = both (covers b.best.position h.position) (covers_all xs b.best) has b.whole;
      }
      | false ↦ λ has_not. elim (covers h.position b.best.position) as (λ (c : Bool). covers h.position b.best.position ≡ c → Best (h ∷ xs)) [
        | true ↦ λ has. record {
          best = h;
          among = λ p is. or_left (p h) (list_any p xs) is;
          whole = both (covers h.position h.position) (covers_all xs h) (covers-itself h.position) (all_through h.position b.best.position xs has b.whole);
        }
        | false ↦ λ neither. absurd (find_none (is_apart h) xs none
            (b.among (is_apart h) (apart_so (covers h.position b.best.position) (covers b.best.position h.position) neither has_not)))
      ] refl
    ] refl

none_here : (h : Held) (o : Option Held) (later : Option (Held × Held)) → apart_with h o later ≡ None → o ≡ None
none_here h None later e = refl
none_here h (Some x) later e = absurd (false≢true (ap is_none e))

none_later : (h : Held) (o : Option Held) (later : Option (Held × Held)) → apart_with h o later ≡ None → later ≡ None
none_later h None later e = e
none_later h (Some x) later e = absurd (false≢true (ap is_none e))

best_of : (h : Held) (hs : List Held) → first_apart (h ∷ hs) ≡ None → Best (h ∷ hs)
best_of h [] e = record {
  best = h;
  among = λ p is. or_left (p h) false is;
  whole = both (covers h.position h.position) true (covers-itself h.position) refl;
}
best_of h (k ∷ ks) e =
    further h (k ∷ ks) (best_of k ks (none_later h (find (is_apart h) (k ∷ ks)) (first_apart (k ∷ ks)) e))
    (none_here h (find (is_apart h) (k ∷ ks)) (first_apart (k ∷ ks)) e)

one_has_all : (ls : List Held) → ls ≢ [] → first_apart ls ≡ None → find (covers_all ls) ls ≡ None → ⊥
one_has_all [] some e none = some refl
one_has_all (h ∷ hs) some e none =
    let b = best_of h hs e in find_none (covers_all (h ∷ hs)) (h ∷ hs) none (b.among (covers_all (h ∷ hs)) b.whole)

pub split_is_there : (helds : List Held) → helds ≢ [] → winner helds ≡ None → first_apart (leading helds) ≡ None → ⊥
split_is_there helds some none e = one_has_all (leading helds) (some_leads helds some) e none
