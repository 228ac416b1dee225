-- Whether a list of intervals in order has all of another.
use Rattle.std.proofs.Common.{◌≡◌, ◌≤◌, inl, inr, ℕ, Bool, true, false, ◌&&◌, ◌||◌, nat_le, nat_lt, List, [], ◌∷◌, refl, sym, subst, ◌∙◌, arith}
use Rattle.std.specs.Str.{bytes_eq}
use Rattle.std.specs.Ordering.{nat_cmp, match_ordering}
use Rattle.std.specs.Cmp.Lexicographic.{slice_cmp}
use Rattle.std.specs.declared.cmp.Ordering.TheVariants.{Less, Equal, Greater}
use Rattle.std.proofs.lemmas.Slice.Eq.{bytes_eq-Decides}
use Rattle.std.proofs.lemmas.Map.Lookups.{exact_bytes}
use Rattle.shard_names.proofs.TabletLemmas.{both_left, both_right, both}
use Rattle.gtid_sets.specs.declared.gtid.Gtid.{Gtid}
use Rattle.gtid_sets.specs.declared.interval.Interval.{Interval}
use Rattle.gtid_sets.specs.Intervals.{start, past, holds, within, Ordered, contains, stands_before}
use Rattle.gtid_sets.proofs.BoolLemmas.{or_left, or_right, true_not_false}
use Rattle.gtid_sets.proofs.OrderLemmas.{Lt, Le, lt_trans, lt_never, le_le, le_or_lt, le_cases, lt_server, le_number, server_cmp, server_itself, le_true, le_test, lt_true, lt_test, Held, holds_is, holds_from, holds_between, start_past, not_held_past}
use Rattle.gtid_sets.proofs.IntervalLemmas.{or_cases, not_within, not_within_below, within_start}

-- whatever is in the second list is in the first
abbrev pub HasAll : List Interval → List Interval → Type 0
HasAll xs ys = (g : Gtid) → within ys g ≡ true → within xs g ≡ true

-- ---- the tests
contains_members : (x y : Interval) (g : Gtid) → contains x y ≡ true → holds y g ≡ true → holds x g ≡ true
contains_members x y g c h =
    let its : Held y g = holds_is y g h in
    let numbers : (nat_le x.first y.first && nat_le y.last x.last) ≡ true = both_right (bytes_eq y.server x.server) (nat_le x.first y.first && nat_le y.last x.last) c in
    let servers : y.server ≡ x.server = (bytes_eq-Decides y.server x.server).0 (both_left (bytes_eq y.server x.server) (nat_le x.first y.first && nat_le y.last x.last) c) in
    let low : x.first ≤ y.first = le_true x.first y.first (both_left (nat_le x.first y.first) (nat_le y.last x.last) numbers) in
    let high : y.last ≤ x.last = le_true y.last x.last (both_right (nat_le x.first y.first) (nat_le y.last x.last) numbers) in
    holds_from x g (record { servers = its.servers ∙ servers; low = omega (arith, its.low); high = omega (arith, its.high) })

before_is : (x y : Interval) → stands_before x y ≡ true → Le (past x) (start y)
before_is x y h = elim (slice_cmp nat_cmp x.server y.server) as (λ o. slice_cmp nat_cmp x.server y.server ≡ o → match_ordering o true (nat_lt x.last y.first) false ≡ true → Le (past x) (start y)) [
  | Less ↦ λ e k. inl (lt_server (past x) (start y) e)
  | Equal ↦ λ e k. le_number (past x) (start y) (exact_bytes x.server y.server e) (omega (arith, lt_true x.last y.first k))
  | Greater ↦ λ e k. absurd (cc)
] refl h

before_not : (x y : Interval) → stands_before x y ≡ false → Lt (start y) (past x)
before_not x y h = elim (le_or_lt (past x) (start y)) [
  | inl le ↦ absurd (refuted le)
  | inr lt ↦ lt
]
  where
    refuted : Le (past x) (start y) → ⊥
    refuted le = elim (le_cases (past x) (start y) le) [
      | inl s ↦ true_not_false (stands_before x y) (rw s refl) h
      | inr p ↦ true_not_false (stands_before x y) (rw (subst (λ (t : List ℕ). server_cmp x.server t ≡ Equal) p.0 (server_itself x.server)) (lt_test x.last y.first (omega (arith, p.1)))) h
    ]

-- ---- one step
pub all_contained : (xs ys : List Interval) (x y : Interval) → contains x y ≡ true → HasAll (x ∷ xs) ys → HasAll (x ∷ xs) (y ∷ ys)
all_contained xs ys x y c all = λ g m. elim (or_cases (holds y g) (within ys g) m) [
  | inl here ↦ or_left (holds x g) (within xs g) (contains_members x y g c here)
  | inr later ↦ all g later
]

pub all_fewer : (xs ys : List Interval) (y : Interval) → HasAll xs (y ∷ ys) → HasAll xs ys
all_fewer xs ys y all = λ g m. all g (or_right (holds y g) (within ys g) m)

pub all_more : (xs ys : List Interval) (x : Interval) → HasAll xs ys → HasAll (x ∷ xs) ys
all_more xs ys x all = λ g m. or_right (holds x g) (within xs g) (all g m)

-- an interval that stands before all of the second list has no part in it
pub all_without : (xs ys : List Interval) (x y : Interval) → Ordered (y ∷ ys) → stands_before x y ≡ true → HasAll (x ∷ xs) (y ∷ ys) → HasAll xs (y ∷ ys)
all_without xs ys x y h b all = λ g m.
    let out : holds x g ≡ false = not_held_past x g (le_le (past x) (start y) g (before_is x y b) (within_start y ys g h m)) in
    later (holds x g) (within xs g) out (all g m)
  where
    later : (a b : Bool) → a ≡ false → (a || b) ≡ true → b ≡ true
    later true b e h = absurd (cc)
    later false b e h = h

-- what is there is there
present : (ys : List Interval) (y : Interval) (g : Gtid) → Le (start y) g → Lt g (past y) → within (y ∷ ys) g ≡ true
present ys y g low high = or_left (holds y g) (within ys g) (holds_between y g low high)

absent : (xs ys : List Interval) (g : Gtid) → HasAll xs ys → within ys g ≡ true → within xs g ≡ false → ⊥
absent xs ys g all m none = let some : within xs g ≡ true = all g m in cc

-- an interval that neither contains the next nor stands before it leaves a part of it out
pub not_all : (xs ys : List Interval) (x y : Interval) → Ordered (x ∷ xs) → Ordered (y ∷ ys) → contains x y ≡ false → stands_before x y ≡ false → HasAll (x ∷ xs) (y ∷ ys) → ⊥
not_all xs ys x y h k c b all = elim (le_or_lt (start x) (start y)) [
  | inr lt ↦ absent (x ∷ xs) (y ∷ ys) (start y) all (present ys y (start y) (inr refl) (start_past y k.0)) (not_within_below x xs (start y) h lt)
  | inl le ↦ elim (le_or_lt (past y) (past x)) [
    | inr lt ↦ absent (x ∷ xs) (y ∷ ys) (past x) all (present ys y (past x) (inl (before_not x y b)) lt) (beyond_both (not_held_past x (past x) (inr refl)) (not_within x xs (past x) h.1.0 (inr refl)))
    | inl le_end ↦ inside le le_end
  ]
]
  where
    beyond_both : {a b : Bool} → a ≡ false → b ≡ false → (a || b) ≡ false
    beyond_both e f = rw (e, f) refl

    inside : Le (start x) (start y) → Le (past y) (past x) → ⊥
    inside low high = elim (le_cases (start x) (start y) low) [
      | inl s ↦ elim (le_cases (past y) (past x) high) [
        | inl t ↦ lt_never x_start (lt_trans x_start (start y) x_start (lt_server (start x) (start y) s) (lt_server (start y) (start x) t))
        | inr q ↦ lt_never x_start (lt_server x_start x_start (subst (λ (t : List ℕ). server_cmp x.server t ≡ Less) q.0 s))
      ]
      | inr p ↦ elim (le_cases (past y) (past x) high) [
        | inl t ↦ lt_never x_start (lt_server x_start x_start (subst (λ (t : List ℕ). server_cmp t x.server ≡ Less) (sym p.0) t))
        | inr q ↦
            let holds_it : contains x y ≡ true = both (bytes_eq y.server x.server) (nat_le x.first y.first && nat_le y.last x.last) ((bytes_eq-Decides y.server x.server).1 q.0)
            (both (nat_le x.first y.first) (nat_le y.last x.last) (le_test x.first y.first p.1) (le_test y.last x.last (omega (arith, q.1)))) in
            true_not_false (contains x y) holds_it c
      ]
    ]
      where
        x_start : Gtid
        x_start = start x

-- nothing has all of something
pub none_left : (ys : List Interval) (y : Interval) → Ordered (y ∷ ys) → HasAll [] (y ∷ ys) → ⊥
none_left ys y k all = absent [] (y ∷ ys) (start y) all (present ys y (start y) (inr refl) (start_past y k.0)) refl
