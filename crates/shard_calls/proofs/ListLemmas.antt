-- Lists of which one member changes, and members by their numbers.
use Rattle.std.proofs.Common.{◌≡◌, ◌⊎◌, inl, inr, ℕ, zero, suc, ◌+◌, List, [], ◌∷◌, ◌++◌, Bool, true, false, Some, None, ◌||◌, length, refl, ap, arith, ◌==◌, sym, ◌∙◌, option_map}
use Rattle.std.proofs.lemmas.Bool.{false≢true}
use Rattle.std.proofs.lemmas.Bool.Decides.{nat_tests}
use Rattle.std.proofs.lemmas.List.Elements.{Contains-append_left, Contains-append_right, Contains-push}
use Rattle.std.specs.List.{slice_get, Contains, list_any}
use Rattle.shard_calls.specs.World.{changed, changed_at, numbered}

pub slice_get-append : {A : Type 0} (xs ys : List A) (n : ℕ) (x : A) → slice_get xs n ≡ Some x → slice_get (xs ++ ys) n ≡ Some x
slice_get-append [] ys n x h = absurd (let none : None ≡ Some x = h in cc)
slice_get-append (y ∷ xs) ys zero x h = h
slice_get-append (y ∷ xs) ys (suc n) x h = slice_get-append xs ys n x h

pub at_end : {A : Type 0} (xs : List A) (x : A) → slice_get (xs ++ x ∷ []) (length xs) ≡ Some x
at_end [] x = refl
at_end (y ∷ xs) x = at_end xs x

-- ---- a list with one member more

abbrev PushCases : {A : Type 0} → List A → A → A → ℕ → Type 0
PushCases xs x y n = (slice_get xs n ≡ Some y) ⊎ ((n ≡ length xs) × (x ≡ y))

push_deeper : {A : Type 0} (z : A) (xs : List A) (x y : A) (n : ℕ) → PushCases xs x y n → PushCases (z ∷ xs) x y (suc n)
push_deeper z xs x y n (inl k) = inl k
push_deeper z xs x y n (inr k) = inr (ap (λ (m : ℕ). suc m) k.0, k.1)

pub slice_get-push_cases : {A : Type 0} (xs : List A) (x y : A) (n : ℕ) → slice_get (xs ++ x ∷ []) n ≡ Some y → PushCases xs x y n
slice_get-push_cases [] x y zero h = inr (refl, let same : Some x ≡ Some y = h in cc)
slice_get-push_cases [] x y (suc n) h = absurd (let none : None ≡ Some y = h in cc)
slice_get-push_cases (z ∷ xs) x y zero h = inl h
slice_get-push_cases (z ∷ xs) x y (suc n) h = push_deeper z xs x y n (slice_get-push_cases xs x y n h)

pub numbered-push_cases : {A : Type 0} (xs : List A) (x y : A) (c : ℕ) → numbered (xs ++ x ∷ []) c ≡ Some y
    → (numbered xs c ≡ Some y) ⊎ ((c ≡ length xs + 1) × (x ≡ y))
numbered-push_cases xs x y zero h = inl h
numbered-push_cases xs x y (suc n) h = of_cases (slice_get-push_cases xs x y n h)
  where
    of_cases : PushCases xs x y n → (slice_get xs n ≡ Some y) ⊎ ((suc n ≡ length xs + 1) × (x ≡ y))
    of_cases (inl k) = inl k
    of_cases (inr k) = inr (let same = k.0 in omega (arith, same), k.1)

-- ---- a list with one member changed

abbrev ChangeCases : {A : Type 0} → List A → ℕ → (A → A) → ℕ → A → Type 0
ChangeCases {A} xs k f n y = (slice_get xs n ≡ Some y) ⊎ ((k ≡ n) × ((x : A) × (slice_get xs n ≡ Some x) × (f x ≡ y)))

change_deeper : {A : Type 0} (z v : A) (xs : List A) (k : ℕ) (f : A → A) (n : ℕ) (y : A) → ChangeCases xs k f n y → ChangeCases (z ∷ xs) (suc k) f (suc n) y
change_deeper z v xs k f n y (inl h) = inl h
change_deeper z v xs k f n y (inr h) = inr (ap (λ (m : ℕ). suc m) h.0, h.1)

pub changed_cases : {A : Type 0} (xs : List A) (k : ℕ) (f : A → A) (n : ℕ) (y : A) → slice_get (changed xs k f) n ≡ Some y → ChangeCases xs k f n y
changed_cases [] k f n y h = inl h
changed_cases (x ∷ xs) zero f zero y h = inr (refl, (x, refl, let same : Some (f x) ≡ Some y = h in cc))
changed_cases (x ∷ xs) zero f (suc n) y h = inl h
changed_cases (x ∷ xs) (suc k) f zero y h = inl h
changed_cases (x ∷ xs) (suc k) f (suc n) y h = change_deeper x x xs k f n y (changed_cases xs k f n y h)

pub changed_at_cases : {A : Type 0} (xs : List A) (b : ℕ) (f : A → A) (c : ℕ) (y : A) → numbered (changed_at xs b f) c ≡ Some y
    → (numbered xs c ≡ Some y) ⊎ ((b ≡ c) × ((x : A) × (numbered xs c ≡ Some x) × (f x ≡ y)))
changed_at_cases xs zero f c y h = inl h
changed_at_cases xs (suc k) f zero y h = inl h
changed_at_cases {A} xs (suc k) f (suc n) y h = of_cases (changed_cases xs k f n y h)
  where
    of_cases : ChangeCases xs k f n y → (slice_get xs n ≡ Some y) ⊎ ((suc k ≡ suc n) × ((x : A) × (slice_get xs n ≡ Some x) × (f x ≡ y)))
    of_cases (inl m) = inl m
    of_cases (inr m) = inr (ap (λ (i : ℕ). suc i) m.0, m.1)

-- ---- one that passes a test

abbrev Passes : {A : Type 0} → (A → Bool) → List A → Type 0
Passes {A} p xs = (x : A) × Contains xs x × (p x ≡ true)

passes_here : {A : Type 0} (p : A → Bool) (x : A) (xs : List A) (b : Bool) → p x ≡ b → (b || list_any p xs) ≡ true → (list_any p xs ≡ true → Passes p xs)
    → Passes p (x ∷ xs)
passes_here p x xs true is k later = (x, Contains-append_left (x ∷ []) xs x (Contains-push [] x), is)
passes_here p x xs false is k later = let found = later k in (found.0, Contains-append_right (x ∷ []) xs found.0 found.1, found.2)

pub one_passes : {A : Type 0} (p : A → Bool) (xs : List A) → list_any p xs ≡ true → (x : A) × Contains xs x × (p x ≡ true)
one_passes p [] h = absurd (false≢true h)
one_passes p (x ∷ xs) h = passes_here p x xs (p x) refl h (λ k. one_passes p xs k)

last_passes : (b : Bool) → (b || false) ≡ true → (false ≡ true) ⊎ (b ≡ true)
last_passes true k = inr refl
last_passes false k = absurd (false≢true k)

first_passes : {A : Type 0} (p : A → Bool) (xs : List A) (x : A) (b : Bool) → (b || list_any p (xs ++ x ∷ [])) ≡ true
    → (list_any p (xs ++ x ∷ []) ≡ true → (list_any p xs ≡ true) ⊎ (p x ≡ true)) → ((b || list_any p xs) ≡ true) ⊎ (p x ≡ true)
first_passes p xs x true k later = inl refl
first_passes p xs x false k later = later k

pub any-push_cases : {A : Type 0} (p : A → Bool) (xs : List A) (x : A) → list_any p (xs ++ x ∷ []) ≡ true → (list_any p xs ≡ true) ⊎ (p x ≡ true)
any-push_cases p [] x h = last_passes (p x) h
any-push_cases p (z ∷ xs) x h = first_passes p xs x (p z) h (λ k. any-push_cases p xs x k)

-- ---- the changed member, and another one

pub get_changed : {A : Type 0} (xs : List A) (k : ℕ) (f : A → A) → slice_get (changed xs k f) k ≡ option_map f (slice_get xs k)
get_changed [] k f = refl
get_changed (x ∷ xs) zero f = refl
get_changed (x ∷ xs) (suc k) f = get_changed xs k f

pub get_other : {A : Type 0} (xs : List A) (k n : ℕ) (f : A → A) → (k == n) ≡ false → slice_get (changed xs k f) n ≡ slice_get xs n
get_other [] k n f other = refl
get_other (x ∷ xs) zero zero f other = absurd (let same : (0 == 0) ≡ true = grind (arith, nat_tests) in false≢true (sym other ∙ same))
get_other (x ∷ xs) zero (suc n) f other = refl
get_other (x ∷ xs) (suc k) zero f other = refl
get_other (x ∷ xs) (suc k) (suc n) f other = get_other xs k n f (let differ : (k == n) ≡ false = grind (arith, nat_tests) in differ)

pub numbered_changed : {A : Type 0} (xs : List A) (d : ℕ) (f : A → A) → numbered (changed_at xs d f) d ≡ option_map f (numbered xs d)
numbered_changed xs zero f = refl
numbered_changed xs (suc k) f = get_changed xs k f

pub numbered_other : {A : Type 0} (xs : List A) (d c : ℕ) (f : A → A) → (d == c) ≡ false → numbered (changed_at xs d f) c ≡ numbered xs c
numbered_other xs zero c f other = refl
numbered_other xs (suc k) zero f other = refl
numbered_other xs (suc k) (suc n) f other = get_other xs k n f (let differ : (k == n) ≡ false = grind (arith, nat_tests) in differ)
