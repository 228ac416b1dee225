-- The members behind the numbers: a number is there exactly if its member meets the test, and what holds of the members can be read by their
-- numbers.
use Rattle.std.proofs.Common.{◌≡◌, ℕ, zero, suc, ◌+◌, ◌<◌, Bool, true, false, ◌&&◌, ◌||◌, List, [], ◌∷◌, filter, refl, ap, sym, ◌∙◌, cond, ◌==◌, arith}
use Rattle.std.proofs.lemmas.Bool.Decides.{nat_tests}
use Rattle.std.specs.List.{slice_get, list_any, list_all}
use Rattle.shard_calls.specs.Messages.{passes}
use Rattle.shard_calls.specs.World.{numbered}
use Rattle.post.specs.Waiting.{numbers_from, numbers_of}
use Rattle.post.specs.Laws.{has_number, RiseFrom}

-- ---- a number that is there

not_first : (t : Bool) (n k : ℕ) (ns : List ℕ) (b : Bool) → (n == k) ≡ false → has_number ns k ≡ b → has_number (cond t (n ∷ ns) ns) k ≡ b
not_first true n k ns b apart e = ap (λ (s : Bool). s || has_number ns k) apart ∙ e
not_first false n k ns b apart e = e

none_below : {A : Type 0} (n k : ℕ) (test : A → Bool) (xs : List A) → k < n → has_number (numbers_from n test xs) k ≡ false
none_below n k test [] low = refl
none_below n k test (x ∷ xs) low =
    not_first (test x) n k (numbers_from (n + 1) test xs) false (let apart : (n == k) ≡ false = grind (arith, nat_tests) in apart)
    (none_below (n + 1) k test xs (omega (arith, low)))

at_first : (t : Bool) (n k : ℕ) (ns : List ℕ) → (n == k) ≡ true → has_number ns k ≡ false → has_number (cond t (n ∷ ns) ns) k ≡ t
at_first true n k ns same none = ap (λ (s : Bool). s || has_number ns k) same
at_first false n k ns same none = none

has_at : {A : Type 0} (n k j : ℕ) (test : A → Bool) (xs : List A) → k ≡ n + j → has_number (numbers_from n test xs) k ≡ passes test (slice_get xs j)
has_at n k j test [] e = refl
has_at n k zero test (x ∷ xs) e =
    at_first (test x) n k (numbers_from (n + 1) test xs) (let same : (n == k) ≡ true = grind (arith, nat_tests) in same)
    (none_below (n + 1) k test xs (omega (arith, e)))
has_at n k (suc j) test (x ∷ xs) e =
    not_first (test x) n k (numbers_from (n + 1) test xs) (passes test (slice_get xs j)) (let apart : (n == k) ≡ false = grind (arith, nat_tests) in apart)
    (has_at (n + 1) k j test xs (omega (arith, e)))

pub is_exact : {A : Type 0} (test : A → Bool) (xs : List A) (k : ℕ) → has_number (numbers_of test xs) k ≡ passes test (numbered xs k)
is_exact test xs zero = none_below 1 0 test xs (omega arith)
is_exact test xs (suc j) = has_at 1 (suc j) j test xs (omega arith)

-- ---- they rise

rise_one : (t : Bool) (low n : ℕ) (ns : List ℕ) → low < n → RiseFrom n ns → RiseFrom low ns → RiseFrom low (cond t (n ∷ ns) ns)
rise_one true low n ns less next same = (less, next)
rise_one false low n ns less next same = same

pub rise : {A : Type 0} (low n : ℕ) (test : A → Bool) (xs : List A) → low < n → RiseFrom low (numbers_from n test xs)
rise low n test [] less = tt
rise low n test (x ∷ xs) less =
    rise_one (test x) low n (numbers_from (n + 1) test xs) less (rise n (n + 1) test xs (omega arith)) (rise low (n + 1) test xs (omega (arith, less)))

-- ---- what holds of the members, read by their numbers

all_one : {A : Type 0} (t : Bool) (held : A → Bool) (read : ℕ → Bool) (n : ℕ) (ns : List ℕ) (x : A) (xs : List A) → read n ≡ held x → list_all held xs ≡ list_all read ns
    → list_all held (cond t (x ∷ xs) xs) ≡ list_all read (cond t (n ∷ ns) ns)
all_one true held read n ns x xs here rest = ap (λ (b : Bool). b && list_all held xs) (sym here) ∙ ap (λ (b : Bool). read n && b) rest
all_one false held read n ns x xs here rest = rest

all_from : {A : Type 0} (n : ℕ) (test held : A → Bool) (read : ℕ → Bool) (xs : List A) → ((j k : ℕ) → k ≡ n + j → read k ≡ passes held (slice_get xs j))
    → list_all held (filter test xs) ≡ list_all read (numbers_from n test xs)
all_from n test held read [] h = refl
all_from n test held read (x ∷ xs) h =
    all_one (test x) held read n (numbers_from (n + 1) test xs) x (filter test xs) (h zero n (omega arith))
    (all_from (n + 1) test held read xs (λ j k e. h (suc j) k (omega (arith, e))))

read_at : {A : Type 0} (held : A → Bool) (xs : List A) (j k : ℕ) → k ≡ 1 + j → passes held (numbered xs k) ≡ passes held (slice_get xs j)
read_at {A} held xs j k e = ap (λ (i : ℕ). passes held (numbered xs i)) (let next : k ≡ suc j = omega (arith, e) in next)

-- it holds of all that meet the test, if it holds of the member of each of their numbers
pub all_numbered : {A : Type 0} (test held : A → Bool) (xs : List A)
    → list_all held (filter test xs) ≡ list_all (λ k. passes held (numbered xs k)) (numbers_of test xs)
all_numbered test held xs = all_from 1 test held (λ k. passes held (numbered xs k)) xs (λ j k e. read_at held xs j k e)

any_one : (t b rest : Bool) (read : ℕ → Bool) (n : ℕ) (ns : List ℕ) → read n ≡ b → rest ≡ list_any read ns
    → ((t && b) || rest) ≡ list_any read (cond t (n ∷ ns) ns)
any_one true b rest read n ns here e = ap (λ (s : Bool). s || rest) (sym here) ∙ ap (λ (s : Bool). read n || s) e
any_one false b rest read n ns here e = e

any_from : {A : Type 0} (n : ℕ) (test held : A → Bool) (read : ℕ → Bool) (xs : List A) → ((j k : ℕ) → k ≡ n + j → read k ≡ passes held (slice_get xs j))
    → list_any (λ x. test x && held x) xs ≡ list_any read (numbers_from n test xs)
any_from n test held read [] h = refl
any_from n test held read (x ∷ xs) h =
    any_one (test x) (held x) (list_any (λ y. test y && held y) xs) read n (numbers_from (n + 1) test xs) (h zero n (omega arith))
    (any_from (n + 1) test held read xs (λ j k e. h (suc j) k (omega (arith, e))))

-- it holds of one that meets the test, if it holds of the member of one of their numbers
pub any_numbered : {A : Type 0} (test held : A → Bool) (xs : List A)
    → list_any (λ x. test x && held x) xs ≡ list_any (λ k. passes held (numbered xs k)) (numbers_of test xs)
any_numbered test held xs = any_from 1 test held (λ k. passes held (numbered xs k)) xs (λ j k e. read_at held xs j k e)
