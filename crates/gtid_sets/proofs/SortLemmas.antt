-- Intervals in any order, put in order of their starts.
use Rattle.std.proofs.Common.{◌≡◌, ◌<◌, inl, inr, ℕ, suc, ◌+◌, true, false, List, [], ◌∷◌, length, get_or, sym, ap, subst, ◌∙◌, arith}
use Rattle.std.specs.Ordering.{is_lt}
use Rattle.std.specs.Prelude.{IsPermutation, IsSortedByKey}
use Rattle.std.proofs.lemmas.List.Sorted.{list_any-IsPermutation}
use Rattle.gtid_sets.specs.declared.gtid.Gtid.{Gtid}
use Rattle.gtid_sets.specs.declared.interval.Interval.{Interval}
use Rattle.gtid_sets.specs.Gtid.{gtid_cmp}
use Rattle.gtid_sets.specs.Intervals.{start, holds, within, StartsRise, position_of}
use Rattle.gtid_sets.proofs.OrderLemmas.{Lt, Le, le_or_lt}
use Rattle.gtid_sets.proofs.ListedLemmas.{has_position_of}
use Rattle.gtid_sets.proofs.SetLemmas.{set_of}

not_below : (a b : Gtid) → is_lt (gtid_cmp b a) ≡ false → Le a b
not_below a b h = elim (le_or_lt a b) [
  | inl le ↦ le
  | inr lt ↦ absurd (refuted lt)
]
  where
    refuted : Lt b a → ⊥
    refuted lt = let e : true ≡ false = ap is_lt (sym lt) ∙ h in cc

pub sorted_rises : (xs : List Interval) → IsSortedByKey start gtid_cmp xs → StartsRise xs
sorted_rises [] h = tt
sorted_rises (x ∷ []) h = tt
sorted_rises (x ∷ y ∷ ys) h = (not_below (start x) (start y) (h 0 x (omega arith) (omega arith)), sorted_rises (y ∷ ys) (λ k d low lt. later k d (omega (arith, lt))))
  where
    one_more : (k : ℕ) → suc k + 1 ≡ suc (k + 1)
    one_more k = omega arith

    later : (k : ℕ) (d : Interval) → suc k + 1 < length (x ∷ y ∷ ys) → is_lt (gtid_cmp (start (get_or (y ∷ ys) (k + 1) d)) (start (get_or (y ∷ ys) k d))) ≡ false
    later k d lt =
        subst (λ (j : ℕ). is_lt (gtid_cmp (start (get_or (x ∷ y ∷ ys) j d)) (start (get_or (y ∷ ys) k d))) ≡ false) (one_more k) (h (suc k) d (omega arith) lt)

pub within_permuted : (xs ys : List Interval) (g : Gtid) → IsPermutation xs ys → within ys g ≡ within xs g
within_permuted xs ys g h = sym (list_any-IsPermutation (λ x. holds x g) xs ys h)

pub set_same : (xs ys : List Interval) → ((g : Gtid) → within xs g ≡ within ys g) → position_of xs ≡ position_of ys
set_same xs ys same = set_of (position_of xs) ys (λ g. has_position_of xs g ∙ same g)
