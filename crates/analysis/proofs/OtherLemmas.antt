-- A test of the others is a test of all who are other.
use Rattle.std.proofs.Common.{◌≡◌, refl, sym, ap, Bool, true, false, not, ◌&&◌, ◌||◌, List, [], ◌∷◌, cond, filter}
use Rattle.std.specs.List.{list_any}
use Rattle.shard_names.specs.declared.alias.Alias.{Alias}
use Rattle.shard_names.specs.declared.tablet.Tablet.{Tablet}
use Rattle.shard_names.specs.Tablets.{alias_eq}
use Rattle.shard_calls.specs.declared.group.Group.{Group}
use Rattle.shard_calls.specs.Analysis.{others_than}

one_any : {A : Type 0} (b : Bool) (test : A → Bool) (x : A) (xs : List A) (rest : Bool)
    → list_any test xs ≡ rest → list_any test (cond b (x ∷ xs) xs) ≡ ((b && test x) || rest)
one_any true test x xs rest e = ap (λ (c : Bool). test x || c) e
one_any false test x xs rest e = e

any_filtered : {A : Type 0} (keep test : A → Bool) (xs : List A) → list_any test (filter keep xs) ≡ list_any (λ x. keep x && test x) xs
any_filtered keep test [] = refl
any_filtered keep test (x ∷ xs) = one_any (keep x) test x (filter keep xs) (list_any (λ y. keep y && test y) xs) (any_filtered keep test xs)

pub any_among_others : (g : Group) (a : Alias) (test : Tablet → Bool) → list_any (λ t. not (alias_eq t.alias a) && test t) g.tablets ≡ list_any test (others_than g a)
any_among_others g a test = sym (any_filtered (λ t. not (alias_eq t.alias a)) test g.tablets)
