-- Lists of a kind are compared by their lengths and then pair by pair.
use Rattle.std.proofs.Common.{◌≡◌, ◌∙◌, refl, sym, ap, ℕ, zero, suc, Bool, true, false, ◌&&◌, ◌==◌, List, [], ◌∷◌, length}
use Rattle.std.proofs.lemmas.Bool.{false≢true}
use Rattle.std.proofs.lemmas.Bool.Decides.{Decides-eqb}
use Rattle.std.specs.List.{list_all, zip}
use Rattle.shard_calls.specs.declared.analysis.Finding.{Finding}
use Rattle.shard_calls.specs.declared.ending.NotJoined.{NotJoined}
use Rattle.shard_calls.specs.declared.ending.Rest.{Rest}
use Rattle.shard_calls.specs.declared.refusal.NotStopped.{NotStopped}
use Rattle.shard_calls.specs.declared.refusal.Rejected.{Rejected}
use Rattle.shard_calls.specs.Same.{rejected_eq, not_stopped_eq, not_joined_eq, findings_eq, line_eq, lines_eq}
use Rattle.spans.specs.Lists.{are_same, same_rejected, same_not_stopped, same_not_joined, same_finding}

none_and : (b : Bool) → (b && false) ≡ false
none_and true = refl
none_and false = refl

abbrev is_zero : ℕ → Bool
is_zero zero = true
is_zero (suc n) = false

abbrev below : ℕ → ℕ
below zero = zero
below (suc n) = n

-- of as many
pairs : {A : Type 0} (same : A → A → Bool) (xs ys : List A) → length xs ≡ length ys → list_all (λ p. same p.0 p.1) (zip xs ys) ≡ are_same same xs ys
pairs same [] [] e = refl
pairs same [] (y ∷ ys) e = absurd (false≢true (sym (ap is_zero e)))
pairs same (x ∷ xs) [] e = absurd (false≢true (ap is_zero e))
pairs same (x ∷ xs) (y ∷ ys) e = ap (λ (b : Bool). same x y && b) (pairs same xs ys (ap below e))

-- of another number
uneven : {A : Type 0} (same : A → A → Bool) (xs ys : List A) → (length xs ≡ length ys → ⊥) → are_same same xs ys ≡ false
uneven same [] [] e = absurd (e refl)
uneven same [] (y ∷ ys) e = refl
uneven same (x ∷ xs) [] e = refl
uneven same (x ∷ xs) (y ∷ ys) e = ap (λ (b : Bool). same x y && b) (uneven same xs ys (λ s. e (ap suc s))) ∙ none_and (same x y)

differ : (m n : ℕ) → (m == n) ≡ false → m ≡ n → ⊥
differ m n e s = false≢true (sym e ∙ (Decides-eqb m n).1 s)

rejected_by : (xs ys : List Rejected) → are_same same_rejected xs ys ≡ rejected_eq xs ys
rejected_by [] [] = refl
rejected_by [] (y ∷ ys) = refl
rejected_by (x ∷ xs) [] = refl
rejected_by (x ∷ xs) (y ∷ ys) = ap (λ (b : Bool). same_rejected x y && b) (rejected_by xs ys)

not_stopped_by : (xs ys : List NotStopped) → are_same same_not_stopped xs ys ≡ not_stopped_eq xs ys
not_stopped_by [] [] = refl
not_stopped_by [] (y ∷ ys) = refl
not_stopped_by (x ∷ xs) [] = refl
not_stopped_by (x ∷ xs) (y ∷ ys) = ap (λ (b : Bool). same_not_stopped x y && b) (not_stopped_by xs ys)

not_joined_by : (xs ys : List NotJoined) → are_same same_not_joined xs ys ≡ not_joined_eq xs ys
not_joined_by [] [] = refl
not_joined_by [] (y ∷ ys) = refl
not_joined_by (x ∷ xs) [] = refl
not_joined_by (x ∷ xs) (y ∷ ys) = ap (λ (b : Bool). same_not_joined x y && b) (not_joined_by xs ys)

findings_by : (xs ys : List Finding) → are_same same_finding xs ys ≡ findings_eq xs ys
findings_by [] [] = refl
findings_by [] (y ∷ ys) = refl
findings_by (x ∷ xs) [] = refl
findings_by (x ∷ xs) (y ∷ ys) = ap (λ (b : Bool). same_finding x y && b) (findings_by xs ys)

lines_by : (xs ys : List Rest) → are_same line_eq xs ys ≡ lines_eq xs ys
lines_by [] [] = refl
lines_by [] (y ∷ ys) = refl
lines_by (x ∷ xs) [] = refl
lines_by (x ∷ xs) (y ∷ ys) = ap (λ (b : Bool). line_eq x y && b) (lines_by xs ys)

pub rejected_pairs : (xs ys : List Rejected) → length xs ≡ length ys → list_all (λ p. same_rejected p.0 p.1) (zip xs ys) ≡ rejected_eq xs ys
rejected_pairs xs ys e = pairs same_rejected xs ys e ∙ rejected_by xs ys

pub rejected_uneven : (xs ys : List Rejected) → (length xs == length ys) ≡ false → rejected_eq xs ys ≡ false
rejected_uneven xs ys e = sym (rejected_by xs ys) ∙ uneven same_rejected xs ys (differ (length xs) (length ys) e)

pub not_stopped_pairs : (xs ys : List NotStopped) → length xs ≡ length ys → list_all (λ p. same_not_stopped p.0 p.1) (zip xs ys) ≡ not_stopped_eq xs ys
not_stopped_pairs xs ys e = pairs same_not_stopped xs ys e ∙ not_stopped_by xs ys

pub not_stopped_uneven : (xs ys : List NotStopped) → (length xs == length ys) ≡ false → not_stopped_eq xs ys ≡ false
not_stopped_uneven xs ys e = sym (not_stopped_by xs ys) ∙ uneven same_not_stopped xs ys (differ (length xs) (length ys) e)

pub not_joined_pairs : (xs ys : List NotJoined) → length xs ≡ length ys → list_all (λ p. same_not_joined p.0 p.1) (zip xs ys) ≡ not_joined_eq xs ys
not_joined_pairs xs ys e = pairs same_not_joined xs ys e ∙ not_joined_by xs ys

pub not_joined_uneven : (xs ys : List NotJoined) → (length xs == length ys) ≡ false → not_joined_eq xs ys ≡ false
not_joined_uneven xs ys e = sym (not_joined_by xs ys) ∙ uneven same_not_joined xs ys (differ (length xs) (length ys) e)

pub findings_pairs : (xs ys : List Finding) → length xs ≡ length ys → list_all (λ p. same_finding p.0 p.1) (zip xs ys) ≡ findings_eq xs ys
findings_pairs xs ys e = pairs same_finding xs ys e ∙ findings_by xs ys

pub findings_uneven : (xs ys : List Finding) → (length xs == length ys) ≡ false → findings_eq xs ys ≡ false
findings_uneven xs ys e = sym (findings_by xs ys) ∙ uneven same_finding xs ys (differ (length xs) (length ys) e)

pub lines_pairs : (xs ys : List Rest) → length xs ≡ length ys → list_all (λ p. line_eq p.0 p.1) (zip xs ys) ≡ lines_eq xs ys
lines_pairs xs ys e = pairs line_eq xs ys e ∙ lines_by xs ys

pub lines_uneven : (xs ys : List Rest) → (length xs == length ys) ≡ false → lines_eq xs ys ≡ false
lines_uneven xs ys e = sym (lines_by xs ys) ∙ uneven line_eq xs ys (differ (length xs) (length ys) e)
