-- Walks over lists of numbers, and what is found on them.
use Rattle.std.proofs.Common.{◌≡◌, ℕ, zero, suc, ◌+◌, ◌≤◌, Bool, true, false, ◌&&◌, ◌||◌, List, [], ◌∷◌, drop, length, Option, Some, None, refl, ap, ◌∙◌, cond, is_some, arith}
use Rattle.std.specs.List.{slice_get, find, list_any, list_all, position_from}
use Rattle.shard_names.proofs.TabletLemmas.{both_left, both_right}
use Rattle.shard_calls.specs.Messages.{passes}
use Rattle.shard_calls.specs.World.{numbered}
use Rattle.post.specs.Waiting.{numbers_from, numbers_of}
use Rattle.arrivals.specs.Ways.{if_passes}

-- ---- the first that passes, where the walk has come to a place

none_some : (r : Option ℕ) → r ≡ None → is_some r ≡ true → ⊥
none_some None e h = cc
none_some (Some x) e h = cc

hit_one : (t : Bool) (x : ℕ) (rest r : Option ℕ) → r ≡ cond t (Some x) None → is_some r ≡ true → r ≡ cond t (Some x) rest
hit_one true x rest r e some = e
hit_one false x rest r e some = absurd (none_some r e some)

-- it is the one here
pub hit : (test : ℕ → Bool) (q : List ℕ) (at : ℕ) (r : Option ℕ) → r ≡ if_passes test (slice_get q at) → is_some r ≡ true → r ≡ find test (drop at q)
hit test [] at r e some = absurd (none_some r e some)
hit test (x ∷ q) zero r e some = hit_one (test x) x (find test q) r e some
hit test (x ∷ q) (suc at) r e some = hit test q at r e some

some_none : (r : Option ℕ) (x : ℕ) → r ≡ Some x → is_some r ≡ false → ⊥
some_none None x e h = cc
some_none (Some y) x e h = cc

miss_one : (t : Bool) (x : ℕ) (rest r : Option ℕ) → r ≡ cond t (Some x) None → is_some r ≡ false → cond t (Some x) rest ≡ rest
miss_one true x rest r e none = absurd (some_none r x e none)
miss_one false x rest r e none = refl

miss_next : (test : ℕ → Bool) (q : List ℕ) (at : ℕ) (r : Option ℕ) → r ≡ if_passes test (slice_get q at) → is_some r ≡ false → find test (drop at q) ≡ find test (drop (suc at) q)
miss_next test [] zero r e none = refl
miss_next test [] (suc at) r e none = refl
miss_next test (x ∷ q) zero r e none = miss_one (test x) x (find test q) r e none
miss_next test (x ∷ q) (suc at) r e none = miss_next test q at r e none

-- it is not
pub miss : (test : ℕ → Bool) (q : List ℕ) (at next : ℕ) (r : Option ℕ) → r ≡ if_passes test (slice_get q at) → is_some r ≡ false → next ≡ at + 1
    → find test (drop at q) ≡ find test (drop next q)
miss test q at next r e none is =
    miss_next test q at r e none ∙ ap (λ (i : ℕ). find test (drop i q)) (let same : suc at ≡ next = omega (arith, is) in same)

pub all_dropped : {A : Type 0} (xs : List A) (k : ℕ) → length xs ≤ k → drop k xs ≡ []
all_dropped [] zero long = refl
all_dropped [] (suc k) long = refl
all_dropped (x ∷ xs) zero long = absurd (omega arith)
all_dropped (x ∷ xs) (suc k) long = all_dropped xs k (omega arith)

-- there is none
pub none_left : {A : Type 0} (test : A → Bool) (xs : List A) (k : ℕ) → length xs ≤ k → find test (drop k xs) ≡ None
none_left {A} test xs k long = ap (λ (ys : List A). find test ys) (all_dropped xs k long)

-- ---- whether any passes

any_here_one : (t b : Bool) → t ≡ true → (t || b) ≡ true
any_here_one true b h = refl
any_here_one false b h = absurd (cc)

pub any_here : {A : Type 0} (test : A → Bool) (q : List A) (at : ℕ) → passes test (slice_get q at) ≡ true → list_any test (drop at q) ≡ true
any_here test [] at h = absurd (cc)
any_here test (x ∷ q) zero h = any_here_one (test x) (list_any test q) h
any_here test (x ∷ q) (suc at) h = any_here test q at h

any_next_one : (t b : Bool) → t ≡ false → (t || b) ≡ b
any_next_one true b h = absurd (cc)
any_next_one false b h = refl

any_next : {A : Type 0} (test : A → Bool) (q : List A) (at : ℕ) → passes test (slice_get q at) ≡ false → list_any test (drop at q) ≡ list_any test (drop (suc at) q)
any_next test [] zero h = refl
any_next test [] (suc at) h = refl
any_next test (x ∷ q) zero h = any_next_one (test x) (list_any test q) h
any_next test (x ∷ q) (suc at) h = any_next test q at h

pub not_here : {A : Type 0} (test : A → Bool) (q : List A) (at next : ℕ) → passes test (slice_get q at) ≡ false → next ≡ at + 1 → list_any test (drop at q) ≡ list_any test (drop next q)
not_here test q at next h is = any_next test q at h ∙ ap (λ (i : ℕ). list_any test (drop i q)) (let same : suc at ≡ next = omega (arith, is) in same)

pub nothing_left : {A : Type 0} (test : A → Bool) (xs : List A) (k : ℕ) → length xs ≤ k → list_any test (drop k xs) ≡ false
nothing_left {A} test xs k long = ap (λ (ys : List A). list_any test ys) (all_dropped xs k long)

-- ---- the members behind the numbers

first_one : (t b : Bool) (read : ℕ → Bool) (n : ℕ) (ns : List ℕ) (rest : Option ℕ) → read n ≡ b → find read ns ≡ rest
    → find read (cond t (n ∷ ns) ns) ≡ cond (t && b) (Some n) rest
first_one true b read n ns rest here e = ap (λ (s : Bool). cond s (Some n) (find read ns)) here ∙ ap (λ (o : Option ℕ). cond b (Some n) o) e
first_one false b read n ns rest here e = e

first_from : {A : Type 0} (n : ℕ) (test held : A → Bool) (read : ℕ → Bool) (xs : List A) → ((j k : ℕ) → k ≡ n + j → read k ≡ passes held (slice_get xs j))
    → find read (numbers_from n test xs) ≡ position_from (λ x. test x && held x) n xs
first_from n test held read [] h = refl
first_from n test held read (x ∷ xs) h =
    first_one (test x) (held x) read n (numbers_from (n + 1) test xs) (position_from (λ y. test y && held y) (n + 1) xs) (h zero n (omega arith))
    (first_from (n + 1) test held read xs (λ j k e. h (suc j) k (omega (arith, e))))

read_at : {A : Type 0} (held : A → Bool) (xs : List A) (j k : ℕ) → k ≡ 1 + j → passes held (numbered xs k) ≡ passes held (slice_get xs j)
read_at {A} held xs j k e = ap (λ (i : ℕ). passes held (numbered xs i)) (let next : k ≡ suc j = omega (arith, e) in next)

-- the first of the numbers whose member passes is that of the first member that meets the test and passes
pub first_numbered : {A : Type 0} (test held : A → Bool) (xs : List A)
    → find (λ k. passes held (numbered xs k)) (numbers_of test xs) ≡ position_from (λ x. test x && held x) 1 xs
first_numbered test held xs = first_from 1 test held (λ k. passes held (numbered xs k)) xs (λ j k e. read_at held xs j k e)

-- ---- tests that agree

pub first_same : {A : Type 0} (n : ℕ) (p q : A → Bool) (xs : List A) → ((x : A) → p x ≡ q x) → position_from p n xs ≡ position_from q n xs
first_same n p q [] same = refl
first_same n p q (x ∷ xs) same =
    ap (λ (t : Bool). cond t (Some n) (position_from p (n + 1) xs)) (same x) ∙ ap (λ (o : Option ℕ). cond (q x) (Some n) o) (first_same (n + 1) p q xs same)

pub any_same : {A : Type 0} (p q : A → Bool) (xs : List A) → ((x : A) → p x ≡ q x) → list_any p xs ≡ list_any q xs
any_same p q [] same = refl
any_same p q (x ∷ xs) same = ap (λ (t : Bool). t || list_any p xs) (same x) ∙ ap (λ (t : Bool). q x || t) (any_same p q xs same)

pub any_same_on : {A : Type 0} (held p q : A → Bool) (xs : List A) → list_all held xs ≡ true → ((x : A) → held x ≡ true → p x ≡ q x) → list_any p xs ≡ list_any q xs
any_same_on held p q [] all same = refl
any_same_on held p q (x ∷ xs) all same =
    ap (λ (t : Bool). t || list_any p xs) (same x (both_left (held x) (list_all held xs) all))
    ∙ ap (λ (t : Bool). q x || t) (any_same_on held p q xs (both_right (held x) (list_all held xs) all) same)

pub none_on : {A : Type 0} (held p : A → Bool) (xs : List A) → list_all held xs ≡ true → ((x : A) → held x ≡ true → p x ≡ false) → list_any p xs ≡ false
none_on held p [] all none = refl
none_on held p (x ∷ xs) all none =
    ap (λ (t : Bool). t || list_any p xs) (none x (both_left (held x) (list_all held xs) all)) ∙ none_on held p xs (both_right (held x) (list_all held xs) all) none

or_true : (a b c : Bool) → (a ≡ true → c ≡ true) → (a || b) ≡ true → (b ≡ true → c ≡ true) → c ≡ true
or_true true b c f h g = f refl
or_true false b c f h g = g h

pub or_right : (a b : Bool) → b ≡ true → (a || b) ≡ true
or_right true b h = refl
or_right false b h = h

pub any_more : {A : Type 0} (p q : A → Bool) (xs : List A) → ((x : A) → p x ≡ true → q x ≡ true) → list_any p xs ≡ true → list_any q xs ≡ true
any_more p q [] more h = absurd (cc)
any_more p q (x ∷ xs) more h =
    or_true (p x) (list_any p xs) (q x || list_any q xs) (λ here. any_here_one (q x) (list_any q xs) (more x here)) h
    (λ rest. or_right (q x) (list_any q xs) (any_more p q xs more rest))

either : (a b c : Bool) (p q : Bool) → a ≡ (b || c) → ((b || p) ≡ false) → ((c || q) ≡ false) → (a ≡ false) × ((p ≡ false) × (q ≡ false))
either a true c p q e none more = absurd (cc)
either a false true p q e none more = absurd (cc)
either a false false p q e none more = (e, (none, more))

-- none passes where none passes either of two tests
pub neither : {A : Type 0} (p q r : A → Bool) (xs : List A) → ((x : A) → r x ≡ (p x || q x)) → list_any p xs ≡ false → list_any q xs ≡ false → list_any r xs ≡ false
neither p q r [] split none more = refl
neither p q r (x ∷ xs) split none more =
    let all = either (r x) (p x) (q x) (list_any p xs) (list_any q xs) (split x) none more in
    ap (λ (t : Bool). t || list_any r xs) all.0 ∙ neither p q r xs split all.1.0 all.1.1
