-- Options and tests: what has a value passed its tests, and what has none is None.
use Rattle.std.proofs.lemmas.Bool.{false≢true}
use Rattle.std.proofs.Common.{ℕ, List, Bool, true, false, not, ◌&&◌, cond, ◌≡◌, Option, Some, None, Result, Ok, Err, IfOk, refl, ap, ◌↔◌}
use Rattle.std.specs.Prelude.{option_and_then}
use Rattle.std.specs.Str.{bytes_eq}
use Rattle.std.proofs.lemmas.Slice.Eq.{bytes_eq-Decides}
use Rattle.std.specs.Result.{result_ok, IsOk}

pub cond_some : {A : Type 0} (b : Bool) (o : Option A) (x : A) → cond b o None ≡ Some x → (b ≡ true) × (o ≡ Some x)
cond_some true o x h = (refl, h)
cond_some false o x h = absurd (cc)

pub bind_some : {A B : Type 0} (o : Option A) (f : A → Option B) (x : B) → option_and_then f o ≡ Some x → (a : A) × (o ≡ Some a) × (f a ≡ Some x)
bind_some None f x h = absurd (cc)
bind_some (Some a) f x h = (a, refl, h)

pub only_if_some : {A : Type 0} (b : Bool) (y x : A) → cond b (Some y) None ≡ Some x → (b ≡ true) × (y ≡ x)
only_if_some true y x h = (refl, (cc))
only_if_some false y x h = absurd (cc)

pub and_both : (a b : Bool) → (a && b) ≡ true → (a ≡ true) × (b ≡ true)
and_both true b h = (refl, h)
and_both false b h = absurd (false≢true h)

pub ok_some : {T E : Type 0} (r : Result T E) (x : T) → result_ok r ≡ Some x → r ≡ Ok x
ok_some {T} {E} (Ok y) x h = let same : y ≡ x = (cc) in ap (λ (z : T). let r : Result T E = Ok z in r) same
ok_some (Err e) x h = absurd (cc)

pub same_bytes : (a b : List ℕ) → bytes_eq a b ≡ true → a ≡ b
same_bytes a b h = (bytes_eq-Decides a b).0 h

pub not_true : (b : Bool) → not b ≡ true → b ≡ false
not_true true h = absurd (false≢true h)
not_true false h = refl

-- what came of a choice came of the one that was taken
pub choose : {A : Type 0} (P : Type 0) (b : Bool) (o rest : Option A) (x : A) → cond b o rest ≡ Some x → (b ≡ true → o ≡ Some x → P) → (rest ≡ Some x → P) → P
choose P true o rest x h first others = first refl h
choose P false o rest x h first others = others h

-- a reader that is Ok exactly where an option is Some, and then with its value
pub ok_is_option : {T E : Type 0} (r : Result T E) (o : Option T) → (IsOk r ↔ ((u : T) × (o ≡ Some u))) → IfOk r (λ u. Some u ≡ o) → result_ok r ≡ o
ok_is_option (Ok x) o iff is = is
ok_is_option (Err e) None iff is = refl
ok_is_option (Err e) (Some u) iff is = absurd (false≢true (iff.1 (u, refl)))
