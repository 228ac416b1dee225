-- Lists of which one member changes.
use Rattle.std.proofs.Common.{◌≡◌, ℕ, zero, suc, ◌+◌, ◌<◌, ◌≤◌, List, [], ◌∷◌, None, length, get_or, set, refl, ap, ◌∙◌, arith}
use Rattle.std.specs.List.{slice_get}
use Rattle.shard_calls.specs.World.{changed, changed_at, numbered}

changed_is : {A : Type 0} (xs : List A) (k : ℕ) (f : A → A) (d : A) → k < length xs → set xs k (f (get_or xs k d)) ≡ changed xs k f
changed_is [] k f d short = absurd (omega arith)
changed_is (x ∷ xs) zero f d short = refl
changed_is {A} (x ∷ xs) (suc k) f d short = ap (λ (ys : List A). x ∷ ys) (changed_is xs k f d (omega arith))

-- past the end nothing changes
pub changed_far : {A : Type 0} (xs : List A) (k : ℕ) (f : A → A) → length xs ≤ k → xs ≡ changed xs k f
changed_far [] k f far = refl
changed_far (x ∷ xs) zero f far = absurd (omega arith)
changed_far {A} (x ∷ xs) (suc k) f far = ap (λ (ys : List A). x ∷ ys) (changed_far xs k f (omega arith))

none_far : {A : Type 0} (xs : List A) (k : ℕ) → slice_get xs k ≡ None → length xs ≤ k
none_far [] k none = omega arith
none_far (x ∷ xs) zero none = cc
none_far (x ∷ xs) (suc k) none = omega (arith, none_far xs k none)

-- one member set is one member changed
pub set_one : {A : Type 0} (xs : List A) (k : ℕ) (f : A → A) (x y : A) → k < length xs → x ≡ get_or xs k x → y ≡ f x → set xs k y ≡ changed xs k f
set_one {A} xs k f x y short here new =
    let is : y ≡ f (get_or xs k x) = new ∙ ap f here in
    ap (λ (z : A). set xs k z) is ∙ changed_is xs k f x short

pub set_at : {A : Type 0} (xs : List A) (c k : ℕ) (f : A → A) (x y : A) → k < length xs → c ≡ k + 1 → x ≡ get_or xs k x → y ≡ f x → set xs k y ≡ changed_at xs c f
set_at xs c k f x y short is here new =
    let next : c ≡ suc k = omega (arith, is) in
    rw next (set_one xs k f x y short here new)

pub none_at : {A : Type 0} (xs : List A) (c : ℕ) (f : A → A) → numbered xs c ≡ None → xs ≡ changed_at xs c f
none_at xs zero f none = refl
none_at xs (suc k) f none = changed_far xs k f (none_far xs k none)

-- two changes of one member
twice : {A : Type 0} (xs : List A) (k : ℕ) (f g : A → A) → changed (changed xs k f) k g ≡ changed xs k (λ x. g (f x))
twice [] k f g = refl
twice (x ∷ xs) zero f g = refl
twice {A} (x ∷ xs) (suc k) f g = ap (λ (ys : List A). x ∷ ys) (twice xs k f g)

pub changed_twice : {A : Type 0} (xs : List A) (c : ℕ) (f g : A → A) → changed_at (changed_at xs c f) c g ≡ changed_at xs c (λ x. g (f x))
changed_twice xs zero f g = refl
changed_twice xs (suc k) f g = twice xs k f g

-- a change that changes nothing
same : {A : Type 0} (xs : List A) (k : ℕ) (f : A → A) → ((x : A) → f x ≡ x) → changed xs k f ≡ xs
same [] k f is = refl
same {A} (x ∷ xs) zero f is = ap (λ (y : A). y ∷ xs) (is x)
same {A} (x ∷ xs) (suc k) f is = ap (λ (ys : List A). x ∷ ys) (same xs k f is)

pub changed_same : {A : Type 0} (xs : List A) (c : ℕ) (f : A → A) → ((x : A) → f x ≡ x) → changed_at xs c f ≡ xs
changed_same xs zero f is = refl
changed_same xs (suc k) f is = same xs k f is
