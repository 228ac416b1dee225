-- A PlannedReparentShard that nothing hinders finds a tablet: where one is left that has no reason against it, one is chosen.
use Rattle.std.proofs.Common.{◌≡◌, ℕ, zero, suc, Bool, true, false, nat_lt, cond, List, [], ◌∷◌, Option, Some, None, is_none, option_map, Ok, Err, refl, sym, ap, ◌∙◌}
use Rattle.std.proofs.lemmas.Bool.{false≢true}
use Rattle.std.specs.List.{slice_get, find}
use Rattle.shard_names.specs.declared.alias.Alias.{Alias}
use Rattle.shard_names.specs.declared.tablet.Tablet.{Tablet}
use Rattle.shard_calls.specs.declared.command.PlannedOptions.{PlannedOptions}
use Rattle.shard_calls.specs.declared.event.Seen.{Seen}
use Rattle.shard_calls.specs.declared.group.Group.{Group}
use Rattle.shard_calls.specs.declared.refusal.Refusal.{Refusal}
use Rattle.shard_calls.specs.declared.refusal.Rejected.{Rejected}
use Rattle.shard_calls.specs.declared.span.Deed.{Deed}
use Rattle.shard_calls.specs.Choosing.{better, best_from, chosen, first_of, follower, is_free, number_among, outcome_of, size_by, unless_barred}
use Rattle.completeness.specs.Planned.{FirstIsLeft, FollowerIsLeft}

-- ---- where a tablet is left, one is chosen

pub not_chosen : (o : Option Alias) (why : List Rejected) (r : Refusal) → chosen o why ≡ Err r → o ≡ None
not_chosen None why r h = refl
not_chosen (Some a) why r h = absurd (let wrong : Ok a ≡ Err r = h in cc)

pub not_mapped : {A B : Type 0} (f : A → B) (o : Option A) → option_map f o ≡ None → o ≡ None
not_mapped f None h = refl
not_mapped {A} {B} f (Some x) h = absurd (let wrong : Some (f x) ≡ None = h in cc)

not_found : (p : Tablet → Bool) (xs : List Tablet) (n : ℕ) (t : Tablet) → slice_get xs n ≡ Some t → p t ≡ true → find p xs ≡ None → ⊥
not_found p [] n t at passes none = let wrong : None ≡ Some t = at in cc
not_found p (x ∷ xs) zero t at passes none = of_test (p x) (ap (λ (y : Tablet). p y) (let same : Some x ≡ Some t = at in let one : x ≡ t = cc in one) ∙ passes) none
  where
    of_test : (b : Bool) → b ≡ true → cond b (Some x) (find p xs) ≡ None → ⊥
    of_test true is h = let wrong : Some x ≡ None = h in cc
    of_test false is h = false≢true is
not_found p (x ∷ xs) (suc n) t at passes none = of_test (p x) none (λ h. not_found p xs n t at passes h)
  where
    of_test : (b : Bool) → cond b (Some x) (find p xs) ≡ None → (find p xs ≡ None → ⊥) → ⊥
    of_test true h rest = let wrong : Some x ≡ None = h in cc
    of_test false h rest = rest h

pub first_left : (g : Group) (o : PlannedOptions) (seen : Seen) (r : Refusal) → FirstIsLeft g o seen → first_of g seen o.avoid ≡ Err r → ⊥
first_left g o seen r left h =
    not_found (is_free g seen o.avoid) g.tablets left.0 left.1.0 left.1.1.0 (ap (λ y. is_none y) left.1.1.1)
    (not_mapped (λ (t : Tablet). t.alias) (find (is_free g seen o.avoid) g.tablets) (not_chosen _ _ r h))

still : (number : Tablet → Option ℕ) (ts : List Tablet) (x : Alias × ℕ) → best_from number (Some x) ts ≡ None → ⊥
still number [] x h = let wrong : Some x ≡ None = h in cc
still number (t ∷ ts) x h = of_number (number t) h (λ y k. still number ts y k)
  where
    of_test : (b : Bool) (n : ℕ) → best_from number (cond b (Some (t.alias, n)) (Some x)) ts ≡ None → ((y : Alias × ℕ) → best_from number (Some y) ts ≡ None → ⊥) → ⊥
    of_test true n k rest = rest (t.alias, n) k
    of_test false n k rest = rest x k

    of_number : (o : Option ℕ) → best_from number (better (Some x) t.alias o) ts ≡ None → ((y : Alias × ℕ) → best_from number (Some y) ts ≡ None → ⊥) → ⊥
    of_number None k rest = rest x k
    of_number (Some n) k rest = of_test (nat_lt x.1 n) n k rest

pub one_left : (number : Tablet → Option ℕ) (ts : List Tablet) (n v : ℕ) (t : Tablet) (so_far : Option (Alias × ℕ)) → slice_get ts n ≡ Some t → number t ≡ Some v
    → best_from number so_far ts ≡ None → ⊥
one_left number ts n v t (Some x) at is h = still number ts x h
one_left number [] n v t None at is h = let wrong : None ≡ Some t = at in cc
one_left number (x ∷ ts) zero v t None at is h =
    still number ts (x.alias, v)
    (ap (λ (o : Option ℕ). best_from number (better None x.alias o) ts)
    (sym (ap (λ (y : Tablet). number y) (let same : Some x ≡ Some t = at in let one : x ≡ t = cc in one) ∙ is)) ∙ h)
one_left number (x ∷ ts) (suc n) v t None at is h = one_left number ts n v t (better None x.alias (number x)) at is h

pub follower_left : (g : Group) (o : PlannedOptions) (seen : Seen) (old : Alias) (done : List Deed) (r : Refusal) → FollowerIsLeft g o seen old done
    → follower g o.allow_cross_cell seen old done ≡ Err r → ⊥
follower_left g o seen old done r left h =
    let number : Tablet → Option ℕ = number_among g o.allow_cross_cell seen old done in
    one_left number g.tablets left.0 (size_by (outcome_of done left.1.0.alias)) left.1.0 None left.1.1.0
    (ap (λ y. unless_barred y (size_by (outcome_of done left.1.0.alias))) left.1.1.1)
    (not_mapped (λ (x : Alias × ℕ). x.0) (best_from number None g.tablets) (not_chosen _ _ r h))
