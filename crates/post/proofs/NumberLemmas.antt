-- The numbers of the members that meet a test: where one more member comes, and where one changes.
use Rattle.std.proofs.Common.{◌≡◌, ℕ, zero, suc, ◌+◌, Bool, true, false, List, [], ◌∷◌, ◌++◌, Some, length, refl, ap, sym, ◌∙◌, cond, ◌==◌, arith}
use Rattle.std.proofs.lemmas.Bool.Decides.{nat_tests}
use Rattle.std.specs.List.{slice_get}
use Rattle.shard_calls.specs.World.{changed}
use Rattle.post.specs.Waiting.{numbers_from}
use Rattle.post.specs.Kept.{taken_out}

-- ---- one more member

before : (t : Bool) (n : ℕ) (xs ys zs : List ℕ) → xs ≡ ys ++ zs → cond t (n ∷ xs) xs ≡ cond t (n ∷ ys) ys ++ zs
before true n xs ys zs e = ap (λ (ns : List ℕ). n ∷ ns) e
before false n xs ys zs e = e

pub numbers_push : {A : Type 0} (n k : ℕ) (test : A → Bool) (xs : List A) (x : A) → k ≡ n + length xs
    → numbers_from n test (xs ++ x ∷ []) ≡ numbers_from n test xs ++ cond (test x) (k ∷ []) []
numbers_push n k test [] x e = ap (λ (j : ℕ). cond (test x) (j ∷ []) []) (let same : n ≡ k = omega (arith, e) in same)
numbers_push n k test (y ∷ xs) x e =
    before (test y) n (numbers_from (n + 1) test (xs ++ x ∷ [])) (numbers_from (n + 1) test xs) (cond (test x) (k ∷ []) [])
    (numbers_push (n + 1) k test xs x (omega (arith, e)))

-- ---- tests that agree

pub numbers_same : {A : Type 0} (n : ℕ) (test other : A → Bool) (xs : List A) → ((x : A) → test x ≡ other x) → numbers_from n test xs ≡ numbers_from n other xs
numbers_same n test other [] same = refl
numbers_same n test other (x ∷ xs) same =
    ap (λ (t : Bool). cond t (n ∷ numbers_from (n + 1) test xs) (numbers_from (n + 1) test xs)) (same x)
    ∙ ap (λ (ns : List ℕ). cond (other x) (n ∷ ns) ns) (numbers_same (n + 1) test other xs same)

-- ---- one member that changes

-- it meets the test as it did
pub numbers_stay : {A : Type 0} (n : ℕ) (test : A → Bool) (f : A → A) (xs : List A) (k : ℕ) → ((x : A) → slice_get xs k ≡ Some x → test (f x) ≡ test x)
    → numbers_from n test (changed xs k f) ≡ numbers_from n test xs
numbers_stay n test f [] k same = refl
numbers_stay n test f (x ∷ xs) zero same =
    ap (λ (t : Bool). cond t (n ∷ numbers_from (n + 1) test xs) (numbers_from (n + 1) test xs)) (same x refl)
numbers_stay n test f (x ∷ xs) (suc k) same = ap (λ (ns : List ℕ). cond (test x) (n ∷ ns) ns) (numbers_stay (n + 1) test f xs k same)

out_first : (a b : Bool) (n k : ℕ) (ns : List ℕ) → a ≡ false → b ≡ true → k ≡ n → cond a (n ∷ ns) ns ≡ taken_out k (cond b (n ∷ ns) ns)
out_first a b n k ns gone there same =
    let here : (n == k) ≡ true = grind (arith, nat_tests) in
    ap (λ (t : Bool). cond t (n ∷ ns) ns) gone
    ∙ sym (ap (λ (t : Bool). cond t ns (n ∷ taken_out k ns)) here)
    ∙ sym (ap (λ (t : Bool). taken_out k (cond t (n ∷ ns) ns)) there)

out_later : (b : Bool) (n k : ℕ) (ns ms : List ℕ) → (n == k) ≡ false → ms ≡ taken_out k ns → cond b (n ∷ ms) ms ≡ taken_out k (cond b (n ∷ ns) ns)
out_later true n k ns ms apart e = ap (λ (is : List ℕ). n ∷ is) e ∙ sym (ap (λ (t : Bool). cond t ns (n ∷ taken_out k ns)) apart)
out_later false n k ns ms apart e = e

-- it met the test, and meets it no more
pub numbers_out : {A : Type 0} (n at : ℕ) (test : A → Bool) (f : A → A) (xs : List A) (k : ℕ) → at ≡ n + k
    → ((x : A) → slice_get xs k ≡ Some x → (test x ≡ true) × (test (f x) ≡ false))
    → numbers_from n test (changed xs k f) ≡ taken_out at (numbers_from n test xs)
numbers_out n at test f [] k e h = refl
numbers_out n at test f (x ∷ xs) zero e h =
    out_first (test (f x)) (test x) n at (numbers_from (n + 1) test xs) (h x refl).1 (h x refl).0 (omega (arith, e))
numbers_out n at test f (x ∷ xs) (suc k) e h =
    let apart : (n == at) ≡ false = grind (arith, nat_tests) in
    out_later (test x) n at (numbers_from (n + 1) test xs) (numbers_from (n + 1) test (changed xs k f)) apart
    (numbers_out (n + 1) at test f xs k (omega (arith, e)) h)
