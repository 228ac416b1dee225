-- Parts of what a command did.
use Rattle.std.proofs.Common.{◌≡◌, ◌∙◌, refl, sym, ap, ℕ, suc, ◌+◌, Bool, true, false, List, [], ◌∷◌, ◌++◌, not, take, cond, arith, ◌≤◌, length, nat_lt, Option, Some, None, is_none, position, unwrap_or}
use Rattle.std.specs.List.{flat_map, position_or_len}
use Rattle.std.proofs.lemmas.Bool.{false≢true}
use Rattle.std.proofs.lemmas.Bool.Decides.{nat_tests}
use Rattle.std.proofs.lemmas.List.Sums.{prefix_len-le-length}
use Rattle.shard_calls.specs.declared.span.Deed.{Deed}
use Rattle.shard_calls.specs.declared.span.Kind.{Kind}
use Rattle.shard_calls.specs.Causes.{calls_of, is_call, is_intended, before_first}
use Rattle.spans.specs.Copies.{call_in}

one_call : (b : Bool) (d : Deed) (xs ys : List Deed) → xs ≡ ys → (cond b (d ∷ []) [] ++ xs) ≡ cond b (d ∷ ys) ys
one_call true d xs ys e = ap (λ (zs : List Deed). d ∷ zs) e
one_call false d xs ys e = e

pub calls_are : (kind : Kind) (ds : List Deed) → flat_map (call_in kind) ds ≡ calls_of kind ds
calls_are kind [] = refl
calls_are kind (d ∷ ds) = one_call (is_call kind d) d (flat_map (call_in kind) ds) (calls_of kind ds) (calls_are kind ds)

one_more : (n : ℕ) → 1 + n ≡ suc n
one_more n = omega arith

one_before : (b : Bool) (d : Deed) (n : ℕ) (ds before : List Deed) → before ≡ take n ds → cond b [] (d ∷ before) ≡ take (cond (not b) (1 + n) 0) (d ∷ ds)
one_before true d n ds before e = refl
one_before false d n ds before e = ap (λ (zs : List Deed). d ∷ zs) e ∙ ap (λ (k : ℕ). take k (d ∷ ds)) (sym (one_more n))

pub before_is_front : (ds : List Deed) → before_first is_intended ds ≡ take (position_or_len is_intended ds) ds
before_is_front [] = refl
before_is_front (d ∷ ds) = one_before (is_intended d) d (position_or_len is_intended ds) ds (before_first is_intended ds) (before_is_front ds)

pub before_within : (ds : List Deed) → position_or_len is_intended ds ≤ length ds
before_within ds = prefix_len-le-length (λ d. not (is_intended d)) ds

at_some : (b : Bool) (p n : ℕ) → cond b (Some p) None ≡ Some n → n ≡ p
at_some true p n e = sym (ap (λ (o : Option ℕ). unwrap_or o 0) e)
at_some false p n e = absurd (false≢true (sym (ap is_none e)))

pub intent_at : (ds : List Deed) (n : ℕ) → position is_intended ds ≡ Some n → n ≡ position_or_len is_intended ds
intent_at ds n e = at_some (nat_lt (position_or_len is_intended ds) (length ds)) (position_or_len is_intended ds) n e

not_less : (p l : ℕ) → nat_lt p l ≡ false → p ≤ l → l ≡ p
not_less p l e le = grind (arith, nat_tests)

at_none : (b : Bool) (p l : ℕ) → nat_lt p l ≡ b → p ≤ l → cond b (Some p) None ≡ None → l ≡ p
at_none true p l t le e = absurd (false≢true (ap is_none e))
at_none false p l t le e = not_less p l t le

pub no_intent : (ds : List Deed) → position is_intended ds ≡ None → length ds ≡ position_or_len is_intended ds
no_intent ds e = at_none (nat_lt (position_or_len is_intended ds) (length ds)) (position_or_len is_intended ds) (length ds) refl (before_within ds) e
