-- Lists of intervals in order: what is beyond an interval, and what is in none.
use Rattle.std.proofs.Common.{◌≡◌, ◌≤◌, ◌⊎◌, inl, inr, Bool, true, false, ◌||◌, List, [], ◌∷◌, refl}
use Rattle.gtid_sets.specs.declared.gtid.Gtid.{Gtid}
use Rattle.gtid_sets.specs.declared.interval.Interval.{Interval}
use Rattle.gtid_sets.specs.Intervals.{start, past, holds, within, Beyond, StartsBy, Ordered}
use Rattle.gtid_sets.proofs.OrderLemmas.{Lt, Le, lt_trans, lt_never, le_lt, lt_le, le_le, from_start, start_past, not_true}

pub or_cases : (a b : Bool) → (a || b) ≡ true → (a ≡ true) ⊎ (b ≡ true)
or_cases true b h = inl refl
or_cases false b h = inr h

-- ---- beyond
pub beyond_from : (x y : Interval) (zs : List Interval) → Le (past x) (past y) → Beyond y zs → Beyond x zs
beyond_from x y [] le h = tt
beyond_from x y (z ∷ zs) le h = (le_lt (past x) (past y) (start z) le h.0, beyond_from x y zs le h.1)

pub beyond_further : (x y : Interval) (zs : List Interval) → y.first ≤ y.last → Lt (past x) (start y) → Beyond y zs → Beyond x zs
beyond_further x y zs some lt h = beyond_from x y zs (inl (lt_trans (past x) (start y) (past y) lt (start_past y some))) h

-- what is in a list beyond an interval is past it
pub within_past : (x : Interval) (ys : List Interval) (g : Gtid) → Beyond x ys → within ys g ≡ true → Lt (past x) g
within_past x [] g h m = absurd (cc)
within_past x (y ∷ ys) g h m = elim (or_cases (holds y g) (within ys g) m) [
  | inl here ↦ lt_le (past x) (start y) g h.0 (from_start y g here)
  | inr later ↦ within_past x ys g h.1 later
]

pub not_within : (x : Interval) (ys : List Interval) (g : Gtid) → Beyond x ys → Le g (past x) → within ys g ≡ false
not_within x ys g h le = not_true (within ys g) (λ m. lt_never g (le_lt g (past x) g le (within_past x ys g h m)))

-- what is in a list in order is not below its first
pub within_start : (x : Interval) (xs : List Interval) (g : Gtid) → Ordered (x ∷ xs) → within (x ∷ xs) g ≡ true → Le (start x) g
within_start x xs g h m = elim (or_cases (holds x g) (within xs g) m) [
  | inl here ↦ from_start x g here
  | inr later ↦ inl (lt_trans (start x) (past x) g (start_past x h.0) (within_past x xs g h.1.0 later))
]

pub not_within_below : (x : Interval) (xs : List Interval) (g : Gtid) → Ordered (x ∷ xs) → Lt g (start x) → within (x ∷ xs) g ≡ false
not_within_below x xs g h low = not_true (within (x ∷ xs) g) (λ m. lt_never g (lt_le g (start x) g low (within_start x xs g h m)))

-- ---- beginning by a transaction
pub starts_further : (g k : Gtid) (xs : List Interval) → Le g k → StartsBy g xs → StartsBy k xs
starts_further g k [] le h = tt
starts_further g k (x ∷ xs) le h = (le_le (start x) g k h.0 le, starts_further g k xs le h.1)
