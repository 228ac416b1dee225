-- Lists of intervals in order that have the same members are one.
use Rattle.std.proofs.Common.{◌≡◌, inl, inr, Bool, true, false, ◌&&◌, ◌||◌, nat_eq, List, [], ◌∷◌, refl, ap, sym, subst, ◌∙◌, arith}
use Rattle.std.specs.Bool.{Decides}
use Rattle.std.specs.Str.{bytes_eq}
use Rattle.std.proofs.lemmas.Bool.Decides.{Decides-eqb}
use Rattle.std.proofs.lemmas.Slice.Eq.{bytes_eq-Decides}
use Rattle.shard_names.proofs.TabletLemmas.{both_left, both_right, both}
use Rattle.gtid_sets.specs.declared.gtid.Gtid.{Gtid}
use Rattle.gtid_sets.specs.declared.interval.Interval.{Interval}
use Rattle.gtid_sets.specs.Intervals.{start, past, holds, within, Ordered}
use Rattle.gtid_sets.proofs.BoolLemmas.{or_left}
use Rattle.gtid_sets.proofs.OrderLemmas.{Lt, Le, le_or_lt, to_past, start_past, holds_between, not_held_past}
use Rattle.gtid_sets.proofs.IntervalLemmas.{not_within, not_within_below}

abbrev Same : List Interval → List Interval → Type 0
Same xs ys = (g : Gtid) → within xs g ≡ within ys g

apart : (b c : Bool) → b ≡ c → b ≡ true → c ≡ false → ⊥
apart b c e p q = cc

starts : (x : Interval) (xs : List Interval) → Ordered (x ∷ xs) → within (x ∷ xs) (start x) ≡ true
starts x xs h = or_left (holds x (start x)) (within xs (start x)) (holds_between x (start x) (inr refl) (start_past x h.0))

-- neither begins below the other
no_lower : (x y : Interval) (xs ys : List Interval) → Ordered (x ∷ xs) → Ordered (y ∷ ys) → Same (x ∷ xs) (y ∷ ys) → Lt (start x) (start y) → ⊥
no_lower x y xs ys h k same lt = apart (within (x ∷ xs) (start x)) (within (y ∷ ys) (start x)) (same (start x)) (starts x xs h) (not_within_below y ys (start x) k lt)

same_start : (x y : Interval) (xs ys : List Interval) → Ordered (x ∷ xs) → Ordered (y ∷ ys) → Same (x ∷ xs) (y ∷ ys) → start x ≡ start y
same_start x y xs ys h k same = elim (le_or_lt (start x) (start y)) [
  | inl le ↦ at le
  | inr lt ↦ absurd (no_lower y x ys xs k h (λ g. sym (same g)) lt)
]
  where
    at : Le (start x) (start y) → start x ≡ start y
    at (inl lt) = absurd (no_lower x y xs ys h k same lt)
    at (inr e) = e

-- neither ends below the other
no_shorter : (x y : Interval) (xs ys : List Interval) → Ordered (x ∷ xs) → start x ≡ start y → Same (x ∷ xs) (y ∷ ys) → Lt (past x) (past y) → ⊥
no_shorter x y xs ys h e same lt =
    let low : Le (start y) (past x) = subst (λ (s : Gtid). Le s (past x)) e (inl (start_past x h.0)) in
    apart (within (y ∷ ys) (past x)) (within (x ∷ xs) (past x)) (sym (same (past x))) (or_left (holds y (past x)) (within ys (past x)) (holds_between y (past x) low lt))
    (neither (not_held_past x (past x) (inr refl)) (not_within x xs (past x) h.1.0 (inr refl)))
  where
    neither : {a b : Bool} → a ≡ false → b ≡ false → (a || b) ≡ false
    neither p q = rw (p, q) refl

same_past : (x y : Interval) (xs ys : List Interval) → Ordered (x ∷ xs) → Ordered (y ∷ ys) → start x ≡ start y → Same (x ∷ xs) (y ∷ ys) → past x ≡ past y
same_past x y xs ys h k e same = elim (le_or_lt (past x) (past y)) [
  | inl le ↦ at le
  | inr lt ↦ absurd (no_shorter y x ys xs k (sym e) (λ g. sym (same g)) lt)
]
  where
    at : Le (past x) (past y) → past x ≡ past y
    at (inl lt) = absurd (no_shorter x y xs ys h e same lt)
    at (inr f) = f

same_first : (x y : Interval) → start x ≡ start y → past x ≡ past y → x ≡ y
same_first x y e f =
    let servers : x.server ≡ y.server = ap (λ (g : Gtid). g.server) e in
    let firsts : x.first ≡ y.first = ap (λ (g : Gtid). g.number) e in
    let lasts : x.last ≡ y.last = omega (arith, ap (λ (g : Gtid). g.number) f) in
    λ i. record { server = servers i; first = firsts i; last = lasts i }

same_later : (x y : Interval) (xs ys : List Interval) → x ≡ y → Ordered (x ∷ xs) → Ordered (y ∷ ys) → Same (x ∷ xs) (y ∷ ys) → Same xs ys
same_later x y xs ys e h k same = λ g. elim (holds x g) as (λ b. holds x g ≡ b → (b || within xs g) ≡ within (y ∷ ys) g → within xs g ≡ within ys g) [
  | true ↦ λ it _.
      let low : Le g (past x) = inl (to_past x g it) in
      not_within x xs g h.1.0 low ∙ sym (not_within y ys g k.1.0 (subst (λ (z : Interval). Le g (past z)) e low))
  | false ↦ λ it all. all ∙ ap (λ b. b || within ys g) (ap (λ (z : Interval). holds z g) (sym e) ∙ it)
] refl (same g)

pub same_intervals : (xs ys : List Interval) → Ordered xs → Ordered ys → ((g : Gtid) → within xs g ≡ within ys g) → xs ≡ ys
same_intervals [] [] h k same = refl
same_intervals [] (y ∷ ys) h k same = absurd (apart (within (y ∷ ys) (start y)) false (sym (same (start y))) (starts y ys k) refl)
same_intervals (x ∷ xs) [] h k same = absurd (apart (within (x ∷ xs) (start x)) false (same (start x)) (starts x xs h) refl)
same_intervals (x ∷ xs) (y ∷ ys) h k same =
    let begins : start x ≡ start y = same_start x y xs ys h k same in
    let first : x ≡ y = same_first x y begins (same_past x y xs ys h k begins same) in
    let later : xs ≡ ys = same_intervals xs ys h.1.1 k.1.1 (same_later x y xs ys first h k same) in
    λ i. first i ∷ later i

-- ---- the test
abbrev pub interval_eq : Interval → Interval → Bool
interval_eq x y = bytes_eq x.server y.server && (nat_eq x.first y.first && nat_eq x.last y.last)

pub interval_eq-Decides : (x y : Interval) → Decides (interval_eq x y) (x ≡ y)
interval_eq-Decides x y = ((λ h. is h), (λ e. subst (λ (z : Interval). interval_eq x z ≡ true) e itself))
  where
    itself : interval_eq x x ≡ true
    itself = both (bytes_eq x.server x.server) (nat_eq x.first x.first && nat_eq x.last x.last) ((bytes_eq-Decides x.server x.server).1 refl)
        (both (nat_eq x.first x.first) (nat_eq x.last x.last) ((Decides-eqb x.first x.first).1 refl) ((Decides-eqb x.last x.last).1 refl))

    is : interval_eq x y ≡ true → x ≡ y
    is h =
        let numbers : (nat_eq x.first y.first && nat_eq x.last y.last) ≡ true = both_right (bytes_eq x.server y.server) (nat_eq x.first y.first && nat_eq x.last y.last) h in
        let servers : x.server ≡ y.server = (bytes_eq-Decides x.server y.server).0 (both_left (bytes_eq x.server y.server) (nat_eq x.first y.first && nat_eq x.last y.last) h) in
        let firsts : x.first ≡ y.first = (Decides-eqb x.first y.first).0 (both_left (nat_eq x.first y.first) (nat_eq x.last y.last) numbers) in
        let lasts : x.last ≡ y.last = (Decides-eqb x.last y.last).0 (both_right (nat_eq x.first y.first) (nat_eq x.last y.last) numbers) in
        λ i. record { server = servers i; first = firsts i; last = lasts i }
