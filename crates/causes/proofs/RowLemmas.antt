-- Rows are compared with those of the tablets by their number and then pair by pair.
use Rattle.std.proofs.Common.{◌≡◌, ◌∙◌, refl, sym, ap, ℕ, zero, suc, Bool, true, false, ◌&&◌, ◌==◌, List, [], ◌∷◌, length, map}
use Rattle.std.proofs.lemmas.Bool.{false≢true}
use Rattle.std.proofs.lemmas.Bool.Decides.{Decides-eqb}
use Rattle.std.specs.List.{list_all, zip}
use Rattle.shard_names.specs.declared.tablet.Tablet.{Tablet}
use Rattle.shard_calls.specs.declared.ending.TabletRow.{TabletRow}
use Rattle.shard_calls.specs.declared.event.Seen.{Seen}
use Rattle.shard_calls.specs.Causes.{row_of}
use Rattle.shard_calls.specs.Same.{rows_eq}
use Rattle.spans.specs.Lists.{same_row}

none_and : (b : Bool) → (b && false) ≡ false
none_and true = refl
none_and false = refl

abbrev is_zero : ℕ → Bool
is_zero zero = true
is_zero (suc n) = false

abbrev below : ℕ → ℕ
below zero = zero
below (suc n) = n

pub rows_pairs : (seen : Seen) (rows : List TabletRow) (ts : List Tablet)
    → length rows ≡ length ts → list_all (λ p. same_row p.0 (row_of seen p.1)) (zip rows ts) ≡ rows_eq rows (map (row_of seen) ts)
rows_pairs seen [] [] e = refl
rows_pairs seen [] (t ∷ ts) e = absurd (false≢true (sym (ap is_zero e)))
rows_pairs seen (x ∷ xs) [] e = absurd (false≢true (ap is_zero e))
rows_pairs seen (x ∷ xs) (t ∷ ts) e = ap (λ (b : Bool). same_row x (row_of seen t) && b) (rows_pairs seen xs ts (ap below e))

uneven : (seen : Seen) (rows : List TabletRow) (ts : List Tablet) → (length rows ≡ length ts → ⊥) → rows_eq rows (map (row_of seen) ts) ≡ false
uneven seen [] [] e = absurd (e refl)
uneven seen [] (t ∷ ts) e = refl
uneven seen (x ∷ xs) [] e = refl
uneven seen (x ∷ xs) (t ∷ ts) e =
    ap (λ (b : Bool). same_row x (row_of seen t) && b) (uneven seen xs ts (λ s. e (ap suc s))) ∙ none_and (same_row x (row_of seen t))

pub rows_uneven : (seen : Seen) (rows : List TabletRow) (ts : List Tablet) → (length rows == length ts) ≡ false → rows_eq rows (map (row_of seen) ts) ≡ false
rows_uneven seen rows ts e = uneven seen rows ts (λ s. false≢true (sym e ∙ (Decides-eqb (length rows) (length ts)).1 s))
