-- What is looked up in a list, and what a result says.
use Rattle.std.proofs.Common.{◌≡◌, ◌≤◌, ◌<◌, ℕ, zero, suc, true, false, ltb, List, [], ◌∷◌, Option, Some, None, Result, Ok, Err, OnOk, OnErr, Bor, length, get_or, refl, sym, subst, arith}
use Rattle.std.specs.Option.{option_copied, is_some, IfSome}
use Rattle.std.specs.Result.{is_err}
use Rattle.std.specs.List.{slice_get}
use Rattle.std.proofs.lemmas.Bool.Decides.{nat_tests}
use Rattle.gtid_sets.specs.declared.interval.Interval.{Interval}

lt_from : (m n : ℕ) → true ≡ ltb m n → m < n
lt_from m n h = grind (arith, nat_tests)

le_from : (m n : ℕ) → false ≡ ltb m n → n ≤ m
le_from m n h = grind (arith, nat_tests)

pub looked_some : (ys xs : List Interval) (j : ℕ) (r : Option (Bor Interval)) (n : Interval) → ys ≡ xs → Some n ≡ option_copied r → is_some r ≡ ltb j (length ys) → IfSome r (λ x. x.now ≡ get_or ys j x.now)
    → (j < length xs) × (get_or xs j n ≡ n)
looked_some ys xs j (Some x) n same e t v =
    let it : n ≡ x.now = cc in
    (subst (λ (zs : List Interval). j < length zs) same (lt_from j (length ys) t), subst (λ (zs : List Interval). get_or zs j n ≡ n) same (subst (λ (m : Interval). get_or ys j m ≡ m) (sym it) (sym v)))
looked_some ys xs j None n same e t v = absurd (cc)

pub looked_none : (ys xs : List Interval) (j : ℕ) (r : Option (Bor Interval)) → ys ≡ xs → None ≡ option_copied r → is_some r ≡ ltb j (length ys) → length xs ≤ j
looked_none ys xs j (Some x) same e t = absurd (cc)
looked_none ys xs j None same e t = subst (λ (zs : List Interval). length zs ≤ j) same (le_from j (length ys) t)

-- whatever stands in for what is missing
pub any_default : (xs : List Interval) (j : ℕ) (d e : Interval) → j < length xs → get_or xs j d ≡ get_or xs j e
any_default [] j d e lt = absurd (omega arith)
any_default (x ∷ xs) zero d e lt = refl
any_default (x ∷ xs) (suc j) d e lt = any_default xs j d e (omega arith)

pub got_some : (xs : List Interval) (i : ℕ) (n : Interval) → Some n ≡ slice_get xs i → (i < length xs) × (get_or xs i n ≡ n)
got_some [] i n e = absurd (cc)
got_some (x ∷ xs) zero n e = let it : n ≡ x = cc in (omega arith, sym it)
got_some (x ∷ xs) (suc i) n e = let rest = got_some xs i n e in (omega (arith, rest.0), rest.1)

pub got_none : (xs : List Interval) (i : ℕ) → None ≡ slice_get xs i → length xs ≤ i
got_none [] i e = omega arith
got_none (x ∷ xs) zero e = absurd (cc)
got_none (x ∷ xs) (suc i) e = omega (arith, got_none xs i e)

pub is_empty : (xs : List Interval) → length xs ≡ 0 → xs ≡ []
is_empty [] e = refl
is_empty (x ∷ xs) e = absurd (omega arith)

pub on_ok_map : {A E : Type 0} (r : Result A E) (P Q : Type 0) → (P → Q) → OnOk r P → OnOk r Q
on_ok_map (Ok a) P Q f h = f h
on_ok_map (Err e) P Q f h = tt

pub on_err_map : {A E : Type 0} (r : Result A E) (P Q : Type 0) → (P → Q) → OnErr r P → OnErr r Q
on_err_map (Ok a) P Q f h = tt
on_err_map (Err e) P Q f h = f h

pub on_ok_get : {A E : Type 0} (r : Result A E) (P : Type 0) → is_err r ≡ false → OnOk r P → P
on_ok_get (Ok a) P e h = h
on_ok_get (Err x) P e h = absurd (cc)
