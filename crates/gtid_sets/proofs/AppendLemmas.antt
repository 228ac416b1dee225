-- What it makes of a list of intervals in order to put one at its end.
use Rattle.std.proofs.Common.{◌≡◌, ◌≤◌, ◌⊎◌, inl, inr, ℕ, zero, suc, ◌+◌, Bool, true, false, ◌||◌, cond, List, [], ◌∷◌, ◌++◌, length, set, get_or, refl, ap, sym, subst, ◌∙◌, arith}
use Rattle.std.specs.declared.cmp.Ordering.TheVariants.{Less}
use Rattle.gtid_sets.specs.declared.gtid.Gtid.{Gtid}
use Rattle.gtid_sets.specs.declared.interval.Interval.{Interval}
use Rattle.gtid_sets.specs.Intervals.{start, past, holds, within, Beyond, StartsBy, StartsRise, Behind, Ordered, touches, joined}
use Rattle.gtid_sets.proofs.BoolLemmas.{or_false, or_assoc, true_not_false}
use Rattle.gtid_sets.proofs.OrderLemmas.{Lt, Le, lt_trans, lt_never, lt_le, le_or_lt, le_cases, lt_server, server_cmp, start_past}
use Rattle.gtid_sets.proofs.IntervalLemmas.{starts_further}
use Rattle.gtid_sets.proofs.PutLemmas.{Touched, touches_is, touches_from, holds_joined}

-- the list with an interval at its end, joined to the last where they touch
abbrev pub append_in : Interval → List Interval → List Interval
append_in n [] = n ∷ []
append_in n (y ∷ []) = cond (touches (start n) y) (joined y n ∷ []) (y ∷ n ∷ [])
append_in n (y ∷ z ∷ zs) = y ∷ append_in n (z ∷ zs)

-- ---- in order
apart : (n y : Interval) → Le (start y) (start n) → touches (start n) y ≡ false → Lt (past y) (start n)
apart n y le none = elim (le_or_lt (start n) (past y)) [
  | inl low ↦ absurd (refuted low)
  | inr lt ↦ lt
]
  where
    refuted : Le (start n) (past y) → ⊥
    refuted low = elim (le_cases (start n) (past y) low) [
      | inl s ↦ elim (le_cases (start y) (start n) le) [
        | inl t ↦ lt_never (start n) (lt_trans (start n) (start y) (start n) (lt_server (start n) (start y) s) (lt_server (start y) (start n) t))
        | inr q ↦ lt_never (start n) (lt_server (start n) (start n) (subst (λ (t : List ℕ). server_cmp n.server t ≡ Less) q.0 s))
      ]
      | inr p ↦ elim (le_cases (start y) (start n) le) [
        | inl t ↦ lt_never (start n) (lt_server (start n) (start n) (subst (λ (t : List ℕ). server_cmp t n.server ≡ Less) (sym p.0) t))
        | inr q ↦ true_not_false (touches (start n) y) (touches_from (start n) y (record { servers = p.0; low = omega (arith, q.1); high = p.1 })) none
      ]
    ]

beyond_append_in : (z n : Interval) (xs : List Interval) → Lt (past z) (start n) → Beyond z xs → Beyond z (append_in n xs)
beyond_append_in z n [] lt h = (lt, tt)
beyond_append_in z n (y ∷ []) lt h = at (touches (start n) y)
  where
    at : (b : Bool) → Beyond z (cond b (joined y n ∷ []) (y ∷ n ∷ []))
    at true = (h.0, tt)
    at false = (h.0, (lt, tt))
beyond_append_in z n (y ∷ x ∷ xs) lt h = (h.0, beyond_append_in z n (x ∷ xs) lt h.1)

pub append_ordered : (n : Interval) (xs : List Interval) → n.first ≤ n.last → StartsBy (start n) xs → Ordered xs → Ordered (append_in n xs)
append_ordered n [] some by h = (some, (tt, tt))
append_ordered n (y ∷ []) some by h = at (touches (start n) y) refl
  where
    at : (b : Bool) → touches (start n) y ≡ b → Ordered (cond b (joined y n ∷ []) (y ∷ n ∷ []))
    at true e = (omega (arith, h.0), (tt, tt))
    at false e = (h.0, ((apart n y by.0 e, tt), (some, (tt, tt))))
append_ordered n (y ∷ x ∷ xs) some by h =
    (h.0, (beyond_append_in y n (x ∷ xs) (lt_le (past y) (start x) (start n) h.1.0.0 by.1.0) h.1.0, append_ordered n (x ∷ xs) some by.1 h.1.1))

-- ---- members
pub append_within : (n : Interval) (xs : List Interval) (q : Gtid) → n.first ≤ n.last → StartsBy (start n) xs → Ordered xs → within (append_in n xs) q ≡ (within xs q || holds n q)
append_within n [] q some by h = or_false (holds n q)
append_within n (y ∷ []) q some by h = at (touches (start n) y) refl
  where
    at : (b : Bool) → touches (start n) y ≡ b → within (cond b (joined y n ∷ []) (y ∷ n ∷ [])) q ≡ ((holds y q || false) || holds n q)
    at true e =
        let t : Touched (start n) y = touches_is (start n) y e in
        ap (λ b. b || false) (holds_joined y n q (sym t.servers) (low (le_cases (start y) (start n) by.0)) t.high h.0 some) ∙ move (holds y q) (holds n q)
      where
        low : (server_cmp y.server n.server ≡ Less) ⊎ ((y.server ≡ n.server) × (y.first ≤ n.first)) → y.first ≤ n.first
        low (inl s) = let t : Touched (start n) y = touches_is (start n) y e in absurd (lt_never (start n) (lt_server (start n) (start n) (subst (λ (v : List ℕ). server_cmp v n.server ≡ Less) (sym t.servers) s)))
        low (inr p) = p.1

        move : (a b : Bool) → ((a || b) || false) ≡ ((a || false) || b)
        move true b = refl
        move false true = refl
        move false false = refl
    at false e = move (holds y q) (holds n q)
      where
        move : (a b : Bool) → (a || (b || false)) ≡ ((a || false) || b)
        move true b = refl
        move false true = refl
        move false false = refl
append_within n (y ∷ x ∷ xs) q some by h = ap (λ b. holds y q || b) (append_within n (x ∷ xs) q some by.1 h.1.1) ∙ or_assoc (holds y q) (within (x ∷ xs) q) (holds n q)

-- ---- where they begin
pub append_starts : (n : Interval) (xs : List Interval) → StartsBy (start n) xs → StartsBy (start n) (append_in n xs)
append_starts n [] by = (inr refl, tt)
append_starts n (y ∷ []) by = at (touches (start n) y)
  where
    at : (b : Bool) → StartsBy (start n) (cond b (joined y n ∷ []) (y ∷ n ∷ []))
    at true = (by.0, tt)
    at false = (by.0, (inr refl, tt))
append_starts n (y ∷ x ∷ xs) by = (by.0, append_starts n (x ∷ xs) by.1)

-- ---- at its place
pub set_append : (n last : Interval) (xs : List Interval) (k : ℕ) → k + 1 ≡ length xs → get_or xs k last ≡ last → touches (start n) last ≡ true → set xs k (joined last n) ≡ append_in n xs
set_append n last [] k e at it = absurd (omega arith)
set_append n last (y ∷ []) zero e at it = let here : touches (start n) y ≡ true = subst (λ (z : Interval). touches (start n) z ≡ true) (sym at) it in rw here (ap (λ (z : Interval). joined z n ∷ []) (sym at))
set_append n last (y ∷ []) (suc k) e at it = absurd (omega arith)
set_append n last (y ∷ x ∷ xs) zero e at it = absurd (omega arith)
set_append n last (y ∷ x ∷ xs) (suc k) e at it = ap (λ zs. y ∷ zs) (set_append n last (x ∷ xs) k (omega arith) at it)

pub push_append : (n : Interval) (xs : List Interval) → ((k : ℕ) (d : Interval) → k + 1 ≡ length xs → touches (start n) (get_or xs k d) ≡ false) → xs ++ n ∷ [] ≡ append_in n xs
push_append n [] none = refl
push_append n (y ∷ []) none = let here : touches (start n) y ≡ false = none 0 y (omega arith) in rw here refl
push_append n (y ∷ x ∷ xs) none = ap (λ zs. y ∷ zs) (push_append n (x ∷ xs) (λ k d e. none (suc k) d (omega arith)))

-- ---- what is still to come begins no lower
pub ordered_rises : (xs : List Interval) → Ordered xs → StartsRise xs
ordered_rises [] h = tt
ordered_rises (x ∷ []) h = tt
ordered_rises (x ∷ y ∷ ys) h = (inl (lt_trans (start x) (past x) (start y) (start_past x h.0) h.1.0.0), ordered_rises (y ∷ ys) h.1.1)

pub rise_rest : (x : Interval) (xs : List Interval) → StartsRise (x ∷ xs) → StartsRise xs
rise_rest x [] h = tt
rise_rest x (y ∷ ys) h = h.1

pub behind_rise : (xs : List Interval) (y : Interval) (ys : List Interval) → StartsRise (y ∷ ys) → StartsBy (start y) xs → Behind xs ys
behind_rise xs y [] h by = tt
behind_rise xs y (z ∷ zs) h by = starts_further (start y) (start z) xs h.0 by

-- the next of a list in order
pub behind_next : (xs ys : List Interval) (y : Interval) → Ordered (y ∷ ys) → StartsBy (start y) xs → Behind xs ys
behind_next xs ys y h by = behind_rise xs y ys (ordered_rises (y ∷ ys) h) by
