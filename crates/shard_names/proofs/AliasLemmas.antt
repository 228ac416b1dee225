-- What a loop over an alias's bytes keeps.
use Rattle.std.proofs.Common.{◌≡◌, ℕ, suc, ◌+◌, ◌<◌, ◌≤◌, ◌^◌, List, [], ◌∷◌, ◌++◌, Bool, true, false, Some, None, cond, eqb, length, take, get_or, refl, ap, ◌∙◌, arith, length-take}
use Rattle.std.proofs.lemmas.List.{take_more}
use Rattle.std.proofs.lemmas.Int.Digits.{digits_value-lt}
use Rattle.std.proofs.Math.Nat.{pow-le-pow_right}
use Rattle.std.specs.Str.Parse.{digits_value, AllDigits}
use Rattle.shard_names.specs.Alias.{last_dash}

-- one more byte at the end
last_dash_push : (xs : List ℕ) (b : ℕ) → last_dash (xs ++ b ∷ []) ≡ cond (eqb b 45) (Some (length xs)) (last_dash xs)
last_dash_push [] b = refl
last_dash_push (x ∷ xs) b = rw (last_dash_push xs b) (by_test (eqb b 45))
  where
    by_test : (t : Bool) → (elim (cond t (Some (length xs)) (last_dash xs)) [ Some k ↦ Some (k + 1) | None ↦ cond (eqb x 45) (Some 0) None ]) ≡ cond t (Some (suc (length xs))) (last_dash (x ∷ xs))
    by_test true = let e : length xs + 1 ≡ suc (length xs) = omega arith in ap (λ (n : ℕ). Some n) e
    by_test false = refl

-- one more byte of the front
pub last_dash_more : (text : List ℕ) (i : ℕ) → i < length text → last_dash (take (i + 1) text) ≡ cond (eqb (get_or text i 0) 45) (Some i) (last_dash (take i text))
last_dash_more text i h =
    let size : length (take i text) ≡ i = simp length-take (omega arith) in
    ap last_dash (take_more text i 0 h) ∙ last_dash_push (take i text) (get_or text i 0)
    ∙ ap (λ (n : ℕ). cond (eqb (get_or text i 0) 45) (Some n) (last_dash (take i text))) size

-- ten digits stand for less than 10 ^ 10
pub digits_small : (ds : List ℕ) → AllDigits 10 ds → length ds ≤ 9 → digits_value 10 ds < 10 ^ 9
digits_small ds h short =
    let below : digits_value 10 ds < 10 ^ length ds = digits_value-lt 10 ds h in
    let power : 10 ^ length ds ≤ 10 ^ 9 = pow-le-pow_right (omega arith) short in
    omega (arith, below, power)
