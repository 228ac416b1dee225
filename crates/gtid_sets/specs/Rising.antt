-- Lists of transactions in order, each once: as a GTID set is written (MySQL 8.0 manual, GTID Format and Storage).
use Rattle.std.specs.Prelude.{◌≡◌, Bool, true, false, ◌&&◌, T, List, [], ◌∷◌}
use Rattle.std.specs.Ordering.{is_lt, ordering_reverse, match_ordering}
use Rattle.std.specs.declared.cmp.Ordering.{Ordering}
use Rattle.std.specs.declared.cmp.Ordering.TheVariants.{Less, Equal, Greater}
use Rattle.gtid_sets.specs.declared.gtid.Gtid.{Gtid}
use Rattle.gtid_sets.specs.Gtid.{gtid_cmp}
use Rattle.gtid_sets.specs.GtidOrder.{gtid_total}
use mathlib.Core.Path.{refl, sym, subst, ap, ◌∙◌}

-- whether each is below the next
abbrev pub rises : List Gtid → Bool
rises [] = true
rises (x ∷ []) = true
rises (x ∷ y ∷ ys) = is_lt (gtid_cmp x y) && rises (y ∷ ys)

-- one more in its place, unless it is there
abbrev pub put : Gtid → List Gtid → List Gtid
put g [] = g ∷ []
put g (x ∷ xs) = match_ordering (gtid_cmp g x) (g ∷ x ∷ xs) (x ∷ xs) (x ∷ put g xs)

pub T_both : (a b : Bool) → T a → T b → T (a && b)
T_both true b p q = q
T_both false b p q = p

pub T_left : (a b : Bool) → T (a && b) → T a
T_left true b p = tt
T_left false b p = p

pub T_right : (a b : Bool) → T (a && b) → T b
T_right true b p = p
T_right false b p = absurd p

pub is_below : (o : Ordering) → o ≡ Less → T (is_lt o)
is_below o e = subst (λ r. T (is_lt r)) (sym e) tt

pub is_above : (g x : Gtid) → gtid_cmp g x ≡ Greater → gtid_cmp x g ≡ Less
is_above g x e = gtid_total.antisymm x g ∙ ap ordering_reverse e

rises_under : (x g : Gtid) (ys : List Gtid) → gtid_cmp x g ≡ Less → T (rises (x ∷ ys)) → T (rises (x ∷ put g ys))
rises_under x g [] low h = T_both (is_lt (gtid_cmp x g)) true (is_below _ low) tt
rises_under x g (y ∷ ys) low h =
    elim (gtid_cmp g y) as (λ o. gtid_cmp g y ≡ o → T (rises (x ∷ match_ordering o (g ∷ y ∷ ys) (y ∷ ys) (y ∷ put g ys)))) [
      | Less ↦ λ e. T_both (is_lt (gtid_cmp x g)) _ (is_below _ low) (T_both (is_lt (gtid_cmp g y)) (rises (y ∷ ys)) (is_below _ e) (T_right (is_lt (gtid_cmp x y)) _ h))
      | Equal ↦ λ e. h
      | Greater ↦ λ e. T_both (is_lt (gtid_cmp x y)) _ (T_left (is_lt (gtid_cmp x y)) (rises (y ∷ ys)) h) (rises_under y g ys (is_above g y e) (T_right (is_lt (gtid_cmp x y)) _ h))
    ] refl

-- it stays in order
pub rises-put : (g : Gtid) (xs : List Gtid) → T (rises xs) → T (rises (put g xs))
rises-put g [] h = tt
rises-put g (x ∷ xs) h =
    elim (gtid_cmp g x) as (λ o. gtid_cmp g x ≡ o → T (rises (match_ordering o (g ∷ x ∷ xs) (x ∷ xs) (x ∷ put g xs)))) [
      | Less ↦ λ e. T_both (is_lt (gtid_cmp g x)) (rises (x ∷ xs)) (is_below _ e) h
      | Equal ↦ λ e. h
      | Greater ↦ λ e. rises_under x g xs (is_above g x e) h
    ] refl
