-- Lists of intents: their last one, the one of a term, and one more at the end.
use Rattle.std.proofs.Common.{◌≡◌, ◌≢◌, ℕ, suc, ◌-◌, ◌<◌, ◌≤◌, Bool, true, false, ◌==◌, List, [], ◌∷◌, ◌++◌, Some, length, refl, arith}
use Rattle.std.specs.Option.{is_none}
use Rattle.std.specs.List.{find, slice_get, AllByRecursion}
use Rattle.std.proofs.lemmas.Bool.Decides.{nat_tests}
use Rattle.shard_base.specs.Options.{◌>>=◌, only_if}
use Rattle.topo_lock.specs.declared.intent.Intent.{Intent}
use Rattle.topo_lock.specs.Topology.{last_of}
use Rattle.topo_lock.specs.Laws.{EachTermOnce, TermsRise, TermsWithin}

-- the last place has the last of a list
pub last_place : {A : Type 0} (xs : List A) → slice_get xs (length xs - 1) ≡ last_of xs
last_place [] = refl
last_place (x ∷ []) = refl
last_place (x ∷ y ∷ ys) =
    let place : length (x ∷ y ∷ ys) - 1 ≡ suc (length (y ∷ ys) - 1) = omega arith in rw place (last_place (y ∷ ys))

-- one more at the end is the last
pub last_of-push : {A : Type 0} (xs : List A) (x : A) → last_of (xs ++ x ∷ []) ≡ Some x
last_of-push [] x = refl
last_of-push (y ∷ []) x = refl
last_of-push (y ∷ z ∷ zs) x = last_of-push (z ∷ zs) x

-- what holds of each, with one more at the end
pub AllByRecursion-push : {A : Type 0} (P : A → Type 0) (xs : List A) (x : A) → AllByRecursion P xs → P x → AllByRecursion P (xs ++ x ∷ [])
AllByRecursion-push P [] x all here = (here, tt)
AllByRecursion-push P (y ∷ ys) x all here = (all.0, AllByRecursion-push P ys x all.1 here)

pub EachTermOnce-push : (is : List Intent) (x : Intent) → EachTermOnce is → AllByRecursion (λ i. i.term ≢ x.term) is → EachTermOnce (is ++ x ∷ [])
EachTermOnce-push [] x once new = (tt, tt)
EachTermOnce-push (i ∷ is) x once new = (AllByRecursion-push (λ j. i.term ≢ j.term) is x once.0 new.0, EachTermOnce-push is x once.1 new.1)

pub TermsRise-push : (is : List Intent) (x : Intent) → TermsRise is → AllByRecursion (λ i. i.term < x.term) is → TermsRise (is ++ x ∷ [])
TermsRise-push [] x rise below = (tt, tt)
TermsRise-push (i ∷ is) x rise below = (AllByRecursion-push (λ j. i.term < j.term) is x rise.0 below.0, TermsRise-push is x rise.1 below.1)

-- within a greater term
pub TermsWithin-later : (u v : ℕ) (is : List Intent) → u ≤ v → TermsWithin u is → TermsWithin v is
TermsWithin-later u v [] le within = tt
TermsWithin-later u v (i ∷ is) le within = (omega (arith, within.0), TermsWithin-later u v is le within.1)

-- where no intent is found, none has the term
pub none_found : (u : ℕ) (is : List Intent) → is_none (find (λ i. i.term == u) is) ≡ true → AllByRecursion (λ i. i.term ≢ u) is
none_found u [] none = tt
none_found u (i ∷ is) none = (grind (arith, nat_tests), none_found u is (grind (arith, nat_tests)))

-- where none has the term and none is above it, all are below it
pub all_below : (u : ℕ) (is : List Intent) → TermsWithin u is → AllByRecursion (λ i. i.term ≢ u) is → AllByRecursion (λ i. i.term < u) is
all_below u [] within new = tt
all_below u (i ∷ is) within new = ((let le : i.term ≤ u = within.0 in let ne : i.term ≢ u = new.0 in omega arith), all_below u is within.1 new.1)

-- where no term is above this one, its intent is the last one or none
pub find_last : (u : ℕ) (is : List Intent) → TermsRise is → TermsWithin u is → find (λ i. i.term == u) is ≡ (last_of is >>= (λ i. only_if (i.term == u) i))
find_last u [] rise within = refl
find_last u (i ∷ []) rise within = refl
find_last u (i ∷ j ∷ is) rise within =
    let first : i.term < j.term = rise.0.0 in
    let second : j.term ≤ u = within.1.0 in
    let other : (i.term == u) ≡ false = grind (arith, nat_tests) in
    rw other (find_last u (j ∷ is) rise.1 within.1)

-- what is found stays found
pub find-append : (p : Intent → Bool) (is js : List Intent) (i : Intent) → find p is ≡ Some i → find p (is ++ js) ≡ Some i
find-append p [] js i h = absurd (cc)
find-append p (x ∷ is) js i h = grind (arith, find-append p is js i)

-- one more that does not pass the test changes nothing
pub find-push : (p : Intent → Bool) (is : List Intent) (x : Intent) → p x ≡ false → find p (is ++ x ∷ []) ≡ find p is
find-push p [] x h = rw h refl
find-push p (y ∷ is) x h = rw (find-push p is x h) refl

-- where the terms rise, the last is the greatest
pub within_last : (is : List Intent) (i : Intent) → TermsRise is → last_of is ≡ Some i → TermsWithin i.term is
within_last [] i rise last = absurd (cc)
within_last (j ∷ []) i rise last = let same : j ≡ i = cc in rw (← same) (omega arith, tt)
within_last (j ∷ k ∷ is) i rise last =
    let rest : TermsWithin i.term (k ∷ is) = within_last (k ∷ is) i rise.1 last in
    let first : j.term < k.term = rise.0.0 in
    let second : k.term ≤ i.term = rest.0 in
    (omega arith, rest)
