-- What a test keeps of changed elements is the change of what it keeps.
use Rattle.std.proofs.Common.{◌≡◌, List, [], ◌∷◌, Bool, true, false, cond, map, refl, ap}
use Rattle.std.specs.Prelude.{filter}

pub map-filter : {A B : Type 0} (f : A → B) (p : B → Bool) (xs : List A) → map f (filter (λ x. p (f x)) xs) ≡ filter p (map f xs)
map-filter f p [] = refl
map-filter f p (x ∷ xs) = one (p (f x)) (map-filter f p xs)
  where
    one : (b : Bool) → map f (filter (λ y. p (f y)) xs) ≡ filter p (map f xs) → map f (cond b (x ∷ filter (λ y. p (f y)) xs) (filter (λ y. p (f y)) xs)) ≡ cond b (f x ∷ filter p (map f xs)) (filter p (map f xs))
    one true rest = ap (λ ys. f x ∷ ys) rest
    one false rest = rest
