-- One walk over two lists of intervals: what is left to take after each of its steps.
use Rattle.std.proofs.Common.{◌≡◌, inl, Bool, true, false, not, ◌&&◌, ◌||◌, List, [], ◌∷◌, refl, ap, sym, ◌∙◌}
use Rattle.gtid_sets.specs.declared.gtid.Gtid.{Gtid}
use Rattle.gtid_sets.specs.declared.interval.Interval.{Interval}
use Rattle.gtid_sets.specs.declared.intervals.Taken.{Taken}
use Rattle.gtid_sets.specs.declared.intervals.Taken.TheVariants.{Either, FirstAlone}
use Rattle.gtid_sets.specs.Intervals.{start, past, holds, within, takes, Ordered}
use Rattle.gtid_sets.proofs.BoolLemmas.{or_false, or_true, and_false}
use Rattle.gtid_sets.proofs.OrderLemmas.{lt_trans, le_lt, start_past, not_held_past}
use Rattle.gtid_sets.proofs.IntervalLemmas.{not_within, within_past}
use Rattle.gtid_sets.proofs.CutLemmas.{below_list, above_list, cut_members, below_is_below, Upper}

-- what is kept, and what is taken of the lists that are left
abbrev pub Left : Taken → List Interval → List Interval → List Interval → Gtid → Bool
Left t kept left right g = within kept g || takes t (within left g) (within right g)

-- the part below an interval is in none of the later ones
low_not_later : (x y : Interval) (later : List Interval) (g : Gtid) → Ordered (y ∷ later) → within (below_list x y) g ≡ true → within later g ≡ false
low_not_later x y later g k m = not_within y later g k.1.0 (inl (lt_trans g (start y) (past y) (below_is_below x y g m) (start_past y k.0)))

-- ---- the interval has a part above the other: the other is done
other_done : (t : Taken) (o hx wl hy wy hb hz : Bool) → (hx && not hy) ≡ (hb || hz) → (hb ≡ true → wy ≡ false) → (wl ≡ true → hy ≡ false)
    → (((o || hb) || takes t false hy) || takes t (hz || wl) wy) ≡ (o || takes t (hx || wl) (hy || wy))
other_done Either o hx wl hy wy hb hz p q r = either o hx hy hb p
  where
    either : (o hx hy hb : Bool) → (hx && not hy) ≡ (hb || hz) → (((o || hb) || hy) || ((hz || wl) || wy)) ≡ (o || ((hx || wl) || (hy || wy)))
    either true hx hy hb p = refl
    either false hx true hb p = rw (or_true hb, or_true (hx || wl)) refl
    either false true false true p = refl
    either false true false false p = rw (sym p) refl
    either false false false true p = absurd (cc)
    either false false false false p = rw (sym p) refl
other_done FirstAlone o hx wl hy wy hb hz p q r = ap (λ b. b || ((hz || wl) && not wy)) (or_false (o || hb)) ∙ first o hx wl hy wy hb hz p q r
  where
    first : (o hx wl hy wy hb hz : Bool) → (hx && not hy) ≡ (hb || hz) → (hb ≡ true → wy ≡ false) → (wl ≡ true → hy ≡ false)
        → ((o || hb) || ((hz || wl) && not wy)) ≡ (o || ((hx || wl) && not (hy || wy)))
    first true hx wl hy wy hb hz p q r = refl
    first false hx wl hy wy true hz p q r = rw (q refl) (both_of hx hy wl p)
      where
        both_of : (hx hy wl : Bool) → (hx && not hy) ≡ true → true ≡ ((hx || wl) && not (hy || false))
        both_of true true wl p = absurd (cc)
        both_of true false wl p = refl
        both_of false hy wl p = absurd (cc)
    first false hx true hy wy false hz p q r = rw (r refl) (some_or hz hx wy)
      where
        some_or : (hz hx wy : Bool) → ((hz || true) && not wy) ≡ ((hx || true) && not wy)
        some_or hz hx wy = rw (or_true hz, or_true hx) refl
    first false hx false hy wy false hz p q r = rw (sym p) (spread hx hy wy)
      where
        spread : (hx hy wy : Bool) → (((hx && not hy) || false) && not wy) ≡ ((hx || false) && not (hy || wy))
        spread true true wy = refl
        spread true false wy = refl
        spread false hy wy = refl

pub step_other : (t : Taken) (kept mid new left later : List Interval) (x y z : Interval) (g : Gtid)
    → Ordered (x ∷ left) → Ordered (y ∷ later) → above_list x y ≡ z ∷ [] → Upper x y z
    → within mid g ≡ (within kept g || within (below_list x y) g) → within new g ≡ (within mid g || takes t false (holds y g))
    → Left t new (z ∷ left) later g ≡ Left t kept (x ∷ left) (y ∷ later) g
step_other t kept mid new left later x y z g h k e u below taken =
    ap (λ b. b || takes t (holds z g || within left g) (within later g)) (taken ∙ ap (λ b. b || takes t false (holds y g)) below)
    ∙ other_done t (within kept g) (holds x g) (within left g) (holds y g) (within later g) (within (below_list x y) g) (holds z g)
    pointwise_cut (low_not_later x y later g k) left_not_y
  where
    pointwise_cut : (holds x g && not (holds y g)) ≡ (within (below_list x y) g || holds z g)
    pointwise_cut =
        cut_members x y g k.0 ∙ ap (λ zs. within (below_list x y) g || within zs g) e
        ∙ ap (λ b. within (below_list x y) g || b) (or_false (holds z g))

    left_not_y : within left g ≡ true → holds y g ≡ false
    left_not_y m = not_held_past y g (inl (le_lt (past y) (past x) g u.other (within_past x left g h.1.0 m)))

-- ---- it has none: it is done
its_done : (t : Taken) (o hx wl hy wy hb : Bool) → (hx && not hy) ≡ hb → (hb ≡ true → wy ≡ false)
    → ((o || hb) || takes t wl (hy || wy)) ≡ (o || takes t (hx || wl) (hy || wy))
its_done Either o hx wl hy wy hb p q = either o hx hy p
  where
    either : (o hx hy : Bool) → (hx && not hy) ≡ hb → ((o || hb) || (wl || (hy || wy))) ≡ (o || ((hx || wl) || (hy || wy)))
    either true hx hy p = refl
    either false hx true p = rw (or_true wl, or_true hb, or_true (hx || wl)) refl
    either false true false p = rw (sym p) refl
    either false false false p = rw (sym p) refl
its_done FirstAlone o hx wl hy wy hb p q = first o hx hy p
  where
    first : (o hx hy : Bool) → (hx && not hy) ≡ hb → ((o || hb) || (wl && not (hy || wy))) ≡ (o || ((hx || wl) && not (hy || wy)))
    first true hx hy p = refl
    first false true true p = rw (sym p) (and_false wl)
    first false true false p = rw (sym p, q (sym p)) refl
    first false false hy p = rw (sym p) refl

pub step_its : (t : Taken) (kept mid left later : List Interval) (x y : Interval) (g : Gtid) → Ordered (y ∷ later) → above_list x y ≡ []
    → within mid g ≡ (within kept g || within (below_list x y) g) → Left t mid left (y ∷ later) g ≡ Left t kept (x ∷ left) (y ∷ later) g
step_its t kept mid left later x y g k e below =
    ap (λ b. b || takes t (within left g) (holds y g || within later g)) below
    ∙ its_done t (within kept g) (holds x g) (within left g) (holds y g) (within later g) (within (below_list x y) g)
    pointwise_cut (low_not_later x y later g k)
  where
    pointwise_cut : (holds x g && not (holds y g)) ≡ within (below_list x y) g
    pointwise_cut = cut_members x y g k.0 ∙ ap (λ zs. within (below_list x y) g || within zs g) e ∙ or_false (within (below_list x y) g)
