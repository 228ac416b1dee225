-- Lists of which one member changes.
use Rattle.std.proofs.Common.{◌≡◌, ℕ, zero, suc, ◌+◌, ◌-◌, ◌<◌, ◌≤◌, ◌⊎◌, inl, inr, Bool, false, List, [], ◌∷◌, ◌++◌, None, length, get_or, set, take, refl, ap, sym, ◌∙◌, cond, ◌==◌, arith, length-append}
use Rattle.std.proofs.lemmas.Bool.Decides.{nat_tests}
use Rattle.std.specs.List.{slice_get}
use Rattle.std.proofs.Math.Seq.{take-append_seam}
use Rattle.shard_calls.specs.World.{changed, changed_at}
use Rattle.post.specs.Kept.{with_number, without_last}

changed_is : {A : Type 0} (xs : List A) (k : ℕ) (f : A → A) (d : A) → k < length xs → set xs k (f (get_or xs k d)) ≡ changed xs k f
changed_is [] k f d short = absurd (omega arith)
changed_is (x ∷ xs) zero f d short = refl
changed_is {A} (x ∷ xs) (suc k) f d short = ap (λ (ys : List A). x ∷ ys) (changed_is xs k f d (omega arith))

-- past the end nothing changes
pub changed_far : {A : Type 0} (xs : List A) (k : ℕ) (f : A → A) → length xs ≤ k → xs ≡ changed xs k f
changed_far [] k f far = refl
changed_far (x ∷ xs) zero f far = absurd (omega arith)
changed_far {A} (x ∷ xs) (suc k) f far = ap (λ (ys : List A). x ∷ ys) (changed_far xs k f (omega arith))

pub none_far : {A : Type 0} (xs : List A) (k : ℕ) → slice_get xs k ≡ None → length xs ≤ k
none_far [] k none = omega arith
none_far (x ∷ xs) zero none = cc
none_far (x ∷ xs) (suc k) none = omega (arith, none_far xs k none)

pub length_changed : {A : Type 0} (xs : List A) (k : ℕ) (f : A → A) → length (changed xs k f) ≡ length xs
length_changed [] k f = refl
length_changed (x ∷ xs) zero f = refl
length_changed (x ∷ xs) (suc k) f = ap suc (length_changed xs k f)

pub length_changed_at : {A : Type 0} (xs : List A) (c : ℕ) (f : A → A) → length (changed_at xs c f) ≡ length xs
length_changed_at xs zero f = refl
length_changed_at xs (suc k) f = length_changed xs k f

-- one member set is one member changed
pub set_one : {A : Type 0} (xs : List A) (k : ℕ) (f : A → A) (x y : A) → k < length xs → x ≡ get_or xs k x → y ≡ f x → set xs k y ≡ changed xs k f
set_one {A} xs k f x y short here new =
    let is : y ≡ f (get_or xs k x) = new ∙ ap f here in
    ap (λ (z : A). set xs k z) is ∙ changed_is xs k f x short

pub set_at : {A : Type 0} (xs : List A) (c k : ℕ) (f : A → A) (x y : A) → k < length xs → c ≡ k + 1 → x ≡ get_or xs k x → y ≡ f x → set xs k y ≡ changed_at xs c f
set_at xs c k f x y short is here new =
    let next : c ≡ suc k = omega (arith, is) in
    rw next (set_one xs k f x y short here new)

pub set_there : {A : Type 0} (xs : List A) (c k : ℕ) (f : A → A) (d y : A) → k < length xs → c ≡ k + 1 → y ≡ f (get_or xs k d) → set xs k y ≡ changed_at xs c f
set_there {A} xs c k f d y short is new =
    let next : c ≡ suc k = omega (arith, is) in
    rw next (ap (λ (z : A). set xs k z) new ∙ changed_is xs k f d short)

far_at : {A : Type 0} (xs : List A) (c : ℕ) (f : A → A) → length xs < c → xs ≡ changed_at xs c f
far_at xs zero f far = absurd (omega arith)
far_at xs (suc k) f far = changed_far xs k f (omega arith)

-- a number that is none of the list's
pub out_at : {A : Type 0} (xs : List A) (c : ℕ) (f : A → A) → (c ≡ 0) ⊎ (length xs < c) → xs ≡ changed_at xs c f
out_at {A} xs c f (inl none) = sym (ap (λ (k : ℕ). changed_at xs k f) none)
out_at xs c f (inr far) = far_at xs c f far

-- a change that is taken back
pub changed_back : {A : Type 0} (xs : List A) (k : ℕ) (f g : A → A) → ((x : A) → g (f x) ≡ x) → changed (changed xs k f) k g ≡ xs
changed_back [] k f g back = refl
changed_back {A} (x ∷ xs) zero f g back = ap (λ (y : A). y ∷ xs) (back x)
changed_back {A} (x ∷ xs) (suc k) f g back = ap (λ (ys : List A). x ∷ ys) (changed_back xs k f g back)

pub last_forgotten : (n : ℕ) (ns : List ℕ) → without_last (with_number n ns) ≡ ns
last_forgotten n ns =
    let size : length (ns ++ n ∷ []) - 1 ≡ length ns = omega (arith, length-append ns (n ∷ [])) in
    ap (λ (k : ℕ). take k (ns ++ n ∷ [])) size ∙ take-append_seam ns (n ∷ [])

-- ---- members after a change

pub next_test : {A : Type 0} (k d : ℕ) (x y : A) → cond (k == d) x y ≡ cond (suc k == suc d) x y
next_test {A} k d x y = ap (λ (t : Bool). cond t x y) (let same : (k == d) ≡ (suc k == suc d) = grind (arith, nat_tests) in same)

pub nothing_changed : {A : Type 0} (k d : ℕ) (x y : A) → (k == d) ≡ false → y ≡ cond (k == d) x y
nothing_changed {A} k d x y apart = sym (ap (λ (t : Bool). cond t x y) apart)

pub member_changed : {A : Type 0} (xs : List A) (k d : ℕ) (f : A → A) (z : A) → d < length xs
    → get_or (changed xs k f) d z ≡ cond (k == d) (f (get_or xs d z)) (get_or xs d z)
member_changed [] k d f z short = absurd (omega arith)
member_changed (x ∷ xs) zero zero f z short = refl
member_changed (x ∷ xs) zero (suc d) f z short =
    nothing_changed zero (suc d) (f (get_or xs d z)) (get_or xs d z) (let apart : (zero == suc d) ≡ false = grind (arith, nat_tests) in apart)
member_changed (x ∷ xs) (suc k) zero f z short = nothing_changed (suc k) zero (f x) x (let apart : (suc k == zero) ≡ false = grind (arith, nat_tests) in apart)
member_changed (x ∷ xs) (suc k) (suc d) f z short = member_changed xs k d f z (omega arith) ∙ next_test k d (f (get_or xs d z)) (get_or xs d z)

pub changed_member : {A : Type 0} (xs : List A) (k d : ℕ) (f : A → A) (z : A) → k < length xs
    → get_or (changed xs k f) d z ≡ cond (k == d) (f (get_or xs d z)) (get_or xs d z)
changed_member [] k d f z short = absurd (omega arith)
changed_member (x ∷ xs) zero zero f z short = refl
changed_member (x ∷ xs) zero (suc d) f z short =
    nothing_changed zero (suc d) (f (get_or xs d z)) (get_or xs d z) (let apart : (zero == suc d) ≡ false = grind (arith, nat_tests) in apart)
changed_member (x ∷ xs) (suc k) zero f z short = nothing_changed (suc k) zero (f x) x (let apart : (suc k == zero) ≡ false = grind (arith, nat_tests) in apart)
changed_member (x ∷ xs) (suc k) (suc d) f z short = changed_member xs k d f z (omega arith) ∙ next_test k d (f (get_or xs d z)) (get_or xs d z)

pub default_pushed : {A : Type 0} (xs : List A) (k : ℕ) (z : A) → get_or (xs ++ z ∷ []) k z ≡ get_or xs k z
default_pushed [] zero z = refl
default_pushed [] (suc k) z = refl
default_pushed (x ∷ xs) zero z = refl
default_pushed (x ∷ xs) (suc k) z = default_pushed xs k z

pub out_in : {A : Type 0} (xs : List A) (count c : ℕ) (f : A → A) → length xs ≡ count → (c ≡ 0) ⊎ (count < c) → xs ≡ changed_at xs c f
out_in xs count c f same (inl none) = out_at xs c f (inl none)
out_in xs count c f same (inr far) = out_at xs c f (inr (omega (arith, same, far)))
