-- The first that is given up.
use Rattle.std.proofs.Common.{◌≡◌, List, [], ◌∷◌, Option, Some, None, refl}
use Rattle.std.specs.List.{cons_option}
use Rattle.planned.specs.Course.{first_of}
use Rattle.planned.specs.Leaving.{or_else}

pub first_cons : {A : Type 0} (o : Option A) (xs : List A) → first_of (cons_option o xs) ≡ or_else o (first_of xs)
first_cons None xs = refl
first_cons (Some x) xs = refl
