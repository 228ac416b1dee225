-- Members of lists.
use Rattle.std.proofs.Common.{◌≡◌, ◌⊎◌, inl, inr, ℕ, zero, suc, ◌≤◌, ◌<◌, Bool, true, false, ◌||◌, ◌==◌, refl, ap, sym, subst, ◌∙◌, arith, List, [], ◌∷◌, map, cond, Option, Some, None}
use Rattle.std.proofs.lemmas.Bool.{false≢true}
use Rattle.std.proofs.lemmas.Bool.Decides.{nat_tests}
use Rattle.std.specs.List.{cons_option, slice_get, find, filter, filter_map, list_any, list_all, AllByRecursion, Contains}
use Rattle.gtid_sets.specs.Position.{greatest}
use Rattle.topo_lock.specs.declared.intent.Intent.{Intent}
use Rattle.topo_lock.specs.Topology.{last_of}
use Rattle.topo_lock.specs.Laws.{TermsRise}
use Rattle.topo_lock.proofs.IntentLemmas.{within_last}
use Rattle.shard_names.proofs.TabletLemmas.{both_left, both_right}
use Rattle.shard_calls.specs.World.{numbered}

abbrev pub Among : {A : Type 0} → List A → A → Type 0
Among [] x = ⊥
Among (y ∷ ys) x = (y ≡ x) ⊎ Among ys x

some_is : {A : Type 0} (x y : A) → Some x ≡ Some y → x ≡ y
some_is x y h = cc

pub contains_among : {A : Type 0} (xs : List A) (x : A) → Contains xs x → Among xs x
contains_among [] x (k, less, is) = absurd (omega (arith, less))
contains_among (y ∷ ys) x (zero, less, is) = inl is
contains_among (y ∷ ys) x (suc k, less, is) = inr (contains_among ys x (k, omega (arith, less), is))

pub among_filter : {A : Type 0} (p : A → Bool) (xs : List A) (x : A) → Among xs x → p x ≡ true → Among (filter p xs) x
among_filter p [] x h is = h
among_filter {A} p (y ∷ ys) x h is = of_cases h (λ m. among_filter p ys x m is)
  where
    in_rest : (b : Bool) → Among (filter p ys) x → Among (cond b (y ∷ filter p ys) (filter p ys)) x
    in_rest true m = inr m
    in_rest false m = m

    first : (b : Bool) → p y ≡ b → y ≡ x → Among (cond b (y ∷ filter p ys) (filter p ys)) x
    first true test same = inl same
    first false test same = absurd (false≢true (sym test ∙ ap p same ∙ is))

    of_cases : (y ≡ x) ⊎ Among ys x → (Among ys x → Among (filter p ys) x) → Among (cond (p y) (y ∷ filter p ys) (filter p ys)) x
    of_cases (inl same) later = first (p y) refl same
    of_cases (inr rest) later = in_rest (p y) (later rest)

pub filter_among : {A : Type 0} (p : A → Bool) (xs : List A) (x : A) → Among (filter p xs) x → Among xs x × (p x ≡ true)
filter_among p [] x h = absurd h
filter_among {A} p (y ∷ ys) x h = of_test (p y) refl h (λ m. filter_among p ys x m)
  where
    later : Among ys x × (p x ≡ true) → Among (y ∷ ys) x × (p x ≡ true)
    later r = (inr r.0, r.1)

    of_cases : p y ≡ true → (y ≡ x) ⊎ Among (filter p ys) x → (Among (filter p ys) x → Among ys x × (p x ≡ true)) → Among (y ∷ ys) x × (p x ≡ true)
    of_cases test (inl same) rest = (inl same, ap p (sym same) ∙ test)
    of_cases test (inr m) rest = later (rest m)

    of_test : (b : Bool) → p y ≡ b → Among (cond b (y ∷ filter p ys) (filter p ys)) x → (Among (filter p ys) x → Among ys x × (p x ≡ true))
        → Among (y ∷ ys) x × (p x ≡ true)
    of_test true test m rest = of_cases test m rest
    of_test false test m rest = later (rest m)

pub among_map : {A B : Type 0} (f : A → Option B) (xs : List A) (x : A) (y : B) → Among xs x → f x ≡ Some y → Among (filter_map f xs) y
among_map f [] x y h is = h
among_map {A} {B} f (z ∷ zs) x y h is = of_cases h (λ m. among_map f zs x y m is)
  where
    first : (o : Option B) → f z ≡ o → z ≡ x → Among (filter_map f (z ∷ zs)) y
    first (Some v) test same =
        subst (λ (o : Option B). Among (cons_option o (filter_map f zs)) y) (sym test) (inl (some_is v y (sym test ∙ ap f same ∙ is)))
    first None test same = absurd (let none : None ≡ Some y = sym test ∙ ap f same ∙ is in cc)

    in_rest : (o : Option B) → Among (filter_map f zs) y → Among (cons_option o (filter_map f zs)) y
    in_rest (Some v) m = inr m
    in_rest None m = m

    of_cases : (z ≡ x) ⊎ Among zs x → (Among zs x → Among (filter_map f zs) y) → Among (filter_map f (z ∷ zs)) y
    of_cases (inl same) later = first (f z) refl same
    of_cases (inr rest) later = in_rest (f z) (later rest)

pub find_among : {A : Type 0} (p : A → Bool) (xs : List A) (x : A) → find p xs ≡ Some x → Among xs x × (p x ≡ true)
find_among p [] x h = absurd (let none : None ≡ Some x = h in cc)
find_among {A} p (y ∷ ys) x h = of_test (p y) refl h (λ m. find_among p ys x m)
  where
    of_test : (b : Bool) → p y ≡ b → cond b (Some y) (find p ys) ≡ Some x → (find p ys ≡ Some x → Among ys x × (p x ≡ true)) → Among (y ∷ ys) x × (p x ≡ true)
    of_test true test k rest = let same = some_is y x k in (inl same, ap p (sym same) ∙ test)
    of_test false test k rest = let r = rest k in (inr r.0, r.1)

pub all_among : {A : Type 0} (p : A → Bool) (xs : List A) (x : A) → list_all p xs ≡ true → Among xs x → p x ≡ true
all_among p [] x h m = absurd m
all_among p (y ∷ ys) x h (inl same) = ap p (sym same) ∙ both_left (p y) (list_all p ys) h
all_among p (y ∷ ys) x h (inr m) = all_among p ys x (both_right (p y) (list_all p ys) h) m

pub any_among : {A : Type 0} (p : A → Bool) (xs : List A) (x : A) → Among xs x → p x ≡ true → list_any p xs ≡ true
any_among p [] x m is = absurd m
any_among p (y ∷ ys) x (inl same) is = let here : p y ≡ true = ap p same ∙ is in ap (λ (b : Bool). b || list_any p ys) here
any_among p (y ∷ ys) x (inr m) is = of_test (p y) (any_among p ys x m is)
  where
    of_test : (b : Bool) → list_any p ys ≡ true → (b || list_any p ys) ≡ true
    of_test true h = refl
    of_test false h = h

pub greatest_among : {A : Type 0} (f : A → ℕ) (xs : List A) (x : A) → Among xs x → f x ≤ greatest (map f xs)
greatest_among f [] x m = absurd m
greatest_among f (y ∷ ys) x (inl same) = let value : f y ≡ f x = ap f same in grind (arith, value)
greatest_among f (y ∷ ys) x (inr m) = let below = greatest_among f ys x m in grind (arith, below)

pub last_among : {A : Type 0} (xs : List A) (x : A) → last_of xs ≡ Some x → Among xs x
last_among [] x h = absurd (let none : None ≡ Some x = h in cc)
last_among (y ∷ []) x h = inl (some_is y x h)
last_among (y ∷ z ∷ zs) x h = inr (last_among (z ∷ zs) x h)

pub recursion_among : {A : Type 0} (P : A → Type 0) (xs : List A) (x : A) → AllByRecursion P xs → Among xs x → P x
recursion_among P [] x all m = absurd m
recursion_among P (y ∷ ys) x all (inl same) = subst P same all.0
recursion_among P (y ∷ ys) x all (inr m) = recursion_among P ys x all.1 m

recursion_filter : {A : Type 0} (P : A → Type 0) (p : A → Bool) (xs : List A) → AllByRecursion P xs → AllByRecursion P (filter p xs)
recursion_filter P p [] all = all
recursion_filter {A} P p (y ∷ ys) all = of_test (p y) (recursion_filter P p ys all.1)
  where
    of_test : (b : Bool) → AllByRecursion P (filter p ys) → AllByRecursion P (cond b (y ∷ filter p ys) (filter p ys))
    of_test true rest = (all.0, rest)
    of_test false rest = rest

rise_filter : (p : Intent → Bool) (is : List Intent) → TermsRise is → TermsRise (filter p is)
rise_filter p [] rise = rise
rise_filter p (i ∷ is) rise = of_test (p i) (rise_filter p is rise.1)
  where
    of_test : (b : Bool) → TermsRise (filter p is) → TermsRise (cond b (i ∷ filter p is) (filter p is))
    of_test true rest = (recursion_filter (λ j. i.term < j.term) p is rise.0, rest)
    of_test false rest = rest

-- of those that pass, the last has the greatest term
pub last_greatest : (p : Intent → Bool) (is : List Intent) (i j : Intent) → TermsRise is → last_of (filter p is) ≡ Some i → Among is j → p j ≡ true → j.term ≤ i.term
last_greatest p is i j rise last m passes =
    recursion_among (λ k. k.term ≤ i.term) (filter p is) j (within_last (filter p is) i (rise_filter p is rise) last) (among_filter p is j m passes)

-- the first of its term is the one
pub find_rising : (is : List Intent) (i : Intent) → TermsRise is → Among is i → find (λ j. j.term == i.term) is ≡ Some i
find_rising [] i rise m = absurd m
find_rising (x ∷ is) i rise (inl same) =
    let test : (x.term == i.term) ≡ true = (let t : x.term ≡ i.term = ap (λ (y : Intent). y.term) same in grind (arith, nat_tests, t)) in
    ap (λ (b : Bool). cond b (Some x) (find (λ j. j.term == i.term) is)) test ∙ ap (λ (y : Intent). Some y) same
find_rising (x ∷ is) i rise (inr m) =
    let above : x.term < i.term = recursion_among (λ j. x.term < j.term) is i rise.0 m in
    let test : (x.term == i.term) ≡ false = grind (arith, nat_tests, above) in
    ap (λ (b : Bool). cond b (Some x) (find (λ j. j.term == i.term) is)) test ∙ find_rising is i rise.1 m

-- what is found stands at a number
pub find_numbered : {A : Type 0} (p : A → Bool) (xs : List A) (x : A) → find p xs ≡ Some x → (k : ℕ) × (numbered xs k ≡ Some x) × (p x ≡ true)
find_numbered p xs x h = let r = places p xs x h in (suc r.0, r.1, r.2)
  where
    places : {A : Type 0} (p : A → Bool) (xs : List A) (x : A) → find p xs ≡ Some x → (k : ℕ) × (slice_get xs k ≡ Some x) × (p x ≡ true)
    places p [] x h = absurd (let none : None ≡ Some x = h in cc)
    places {A} p (y ∷ ys) x h = of_test (p y) refl h (λ m. places p ys x m)
      where
        of_test : (b : Bool) → p y ≡ b → cond b (Some y) (find p ys) ≡ Some x → (find p ys ≡ Some x → (k : ℕ) × (slice_get ys k ≡ Some x) × (p x ≡ true))
            → (k : ℕ) × (slice_get (y ∷ ys) k ≡ Some x) × (p x ≡ true)
        of_test true test k rest = let same = some_is y x k in (0, k, ap p (sym same) ∙ test)
        of_test false test k rest = let r = rest k in (suc r.0, r.1, r.2)

pub map_among : {A B : Type 0} (f : A → Option B) (xs : List A) (y : B) → Among (filter_map f xs) y → (x : A) × Among xs x × (f x ≡ Some y)
map_among f [] y m = absurd m
map_among {A} {B} f (z ∷ zs) y m = of_value (f z) refl m (λ k. map_among f zs y k)
  where
    later : (x : A) × Among zs x × (f x ≡ Some y) → (x : A) × Among (z ∷ zs) x × (f x ≡ Some y)
    later r = (r.0, inr r.1, r.2)

    of_cases : (v : B) → f z ≡ Some v → (v ≡ y) ⊎ Among (filter_map f zs) y → (Among (filter_map f zs) y → (x : A) × Among zs x × (f x ≡ Some y))
        → (x : A) × Among (z ∷ zs) x × (f x ≡ Some y)
    of_cases v is (inl same) rest = (z, inl refl, is ∙ ap (λ (b : B). Some b) same)
    of_cases v is (inr k) rest = later (rest k)

    of_value : (o : Option B) → f z ≡ o → Among (cons_option o (filter_map f zs)) y → (Among (filter_map f zs) y → (x : A) × Among zs x × (f x ≡ Some y))
        → (x : A) × Among (z ∷ zs) x × (f x ≡ Some y)
    of_value (Some v) is k rest = of_cases v is k rest
    of_value None is k rest = later (rest k)
