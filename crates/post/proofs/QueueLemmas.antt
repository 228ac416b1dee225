-- The place of a number in a queue, and the place of a tablet.
use Rattle.std.proofs.Common.{◌≡◌, Some, None, ltb, ℕ, suc, ◌+◌, ◌<◌, ◌≤◌, Bool, true, false, not, List, [], ◌∷◌, length, refl, ap, ◌∙◌, cond, nat_eq, arith}
use Rattle.std.specs.List.{position, position_or_len, remove}
use borrow.Author.Tests.{ltb-true, ltb-false}
use Rattle.post.specs.Kept.{taken_out}

step_one : {A : Type 0} (test : A → Bool) (x : A) (xs : List A) (t : Bool) → test x ≡ t → position_or_len test (x ∷ xs) ≡ cond t 0 (suc (position_or_len test xs))
step_one test x xs true is = ap (λ (b : Bool). cond (not b) (1 + position_or_len test xs) 0) is
step_one test x xs false is =
    let e : 1 + position_or_len test xs ≡ suc (position_or_len test xs) = omega arith in
    ap (λ (b : Bool). cond (not b) (1 + position_or_len test xs) 0) is ∙ e

pub position_within : {A : Type 0} (test : A → Bool) (xs : List A) → position_or_len test xs ≤ length xs
position_within test [] = omega arith
position_within test (x ∷ xs) = within_one test x xs (test x) refl (position_within test xs) where
  within_one : {A : Type 0} (test : A → Bool) (x : A) (xs : List A) (t : Bool) → test x ≡ t → position_or_len test xs ≤ length xs → position_or_len test (x ∷ xs) ≤ suc (length xs)
  within_one test x xs true is rest = rw (step_one test x xs true is) (omega arith)
  within_one test x xs false is rest = rw (step_one test x xs false is) (omega (arith, rest))

removed_one : (x : ℕ) (xs : List ℕ) (k : ℕ) (t : Bool) → nat_eq x k ≡ t → (position_or_len (λ n. nat_eq n k) xs < length xs → remove xs (position_or_len (λ n. nat_eq n k) xs) ≡ taken_out k xs)
    → cond t 0 (suc (position_or_len (λ n. nat_eq n k) xs)) < suc (length xs)
    → remove (x ∷ xs) (cond t 0 (suc (position_or_len (λ n. nat_eq n k) xs))) ≡ cond t xs (x ∷ taken_out k xs)
removed_one x xs k true is rest short = refl
removed_one x xs k false is rest short = ap (λ (ns : List ℕ). x ∷ ns) (rest (omega arith))

-- what is found is taken out
pub removed : (xs : List ℕ) (k : ℕ) → position_or_len (λ n. nat_eq n k) xs < length xs → remove xs (position_or_len (λ n. nat_eq n k) xs) ≡ taken_out k xs
removed [] k short = absurd (omega arith)
removed (x ∷ xs) k short =
    let at : position_or_len (λ n. nat_eq n k) (x ∷ xs) ≡ cond (nat_eq x k) 0 (suc (position_or_len (λ n. nat_eq n k) xs)) = step_one (λ n. nat_eq n k) x xs _ refl in
    ap (λ (i : ℕ). remove (x ∷ xs) i) at
    ∙ removed_one x xs k (nat_eq x k) refl (removed xs k) (let less : cond (nat_eq x k) 0 (suc (position_or_len (λ n. nat_eq n k) xs)) < suc (length xs) = omega (arith, at, short) in less)

unfound_one : (x : ℕ) (xs : List ℕ) (k : ℕ) (t : Bool) → nat_eq x k ≡ t → (length xs ≤ position_or_len (λ n. nat_eq n k) xs → xs ≡ taken_out k xs)
    → suc (length xs) ≤ cond t 0 (suc (position_or_len (λ n. nat_eq n k) xs)) → x ∷ xs ≡ cond t xs (x ∷ taken_out k xs)
unfound_one x xs k true is rest long = absurd (omega arith)
unfound_one x xs k false is rest long = ap (λ (ns : List ℕ). x ∷ ns) (rest (omega arith))

-- what is not found is not there
pub unfound : (xs : List ℕ) (k : ℕ) → length xs ≤ position_or_len (λ n. nat_eq n k) xs → xs ≡ taken_out k xs
unfound [] k long = refl
unfound (x ∷ xs) k long =
    let at : position_or_len (λ n. nat_eq n k) (x ∷ xs) ≡ cond (nat_eq x k) 0 (suc (position_or_len (λ n. nat_eq n k) xs)) = step_one (λ n. nat_eq n k) x xs _ refl in
    unfound_one x xs k (nat_eq x k) refl (unfound xs k) (let less : suc (length xs) ≤ cond (nat_eq x k) 0 (suc (position_or_len (λ n. nat_eq n k) xs)) = omega (arith, at, long) in less)

-- ---- what a search says

found_by : {A : Type 0} (test : A → Bool) (xs : List A) (k : ℕ) (t : Bool) → ltb (position_or_len test xs) (length xs) ≡ t → cond t (Some (position_or_len test xs)) None ≡ Some k
    → (k ≡ position_or_len test xs) × (position_or_len test xs < length xs)
found_by test xs k true is e = (let same : k ≡ position_or_len test xs = cc in same, ltb-true _ _ is)
found_by test xs k false is e = absurd (cc)

pub found : {A : Type 0} (test : A → Bool) (xs : List A) (k : ℕ) → position test xs ≡ Some k → (k ≡ position_or_len test xs) × (position_or_len test xs < length xs)
found test xs k e = found_by test xs k _ refl e

none_by : {A : Type 0} (test : A → Bool) (xs : List A) (t : Bool) → ltb (position_or_len test xs) (length xs) ≡ t → cond t (Some (position_or_len test xs)) None ≡ None
    → length xs ≤ position_or_len test xs
none_by test xs true is e = absurd (cc)
none_by test xs false is e = ltb-false _ _ is

pub not_found : {A : Type 0} (test : A → Bool) (xs : List A) → position test xs ≡ None → length xs ≤ position_or_len test xs
not_found test xs e = none_by test xs _ refl e

-- what the search finds is taken out
pub found_out : (xs : List ℕ) (k at : ℕ) → position (λ n. nat_eq n k) xs ≡ Some at → (at < length xs) × (remove xs at ≡ taken_out k xs)
found_out xs k at e =
    let f : (at ≡ position_or_len (λ n. nat_eq n k) xs) × (position_or_len (λ n. nat_eq n k) xs < length xs) = found (λ n. nat_eq n k) xs at e in
    (omega (arith, f.0, f.1), ap (λ (i : ℕ). remove xs i) f.0 ∙ removed xs k f.1)

-- who is not found has the place behind the last
pub stranger : {A : Type 0} (test : A → Bool) (xs : List A) → position test xs ≡ None → length xs + 1 ≡ position_or_len test xs + 1
stranger test xs e = omega (arith, not_found test xs e, position_within test xs)
