-- The tablets that actions name are declared.
use Rattle.std.proofs.Common.{◌≡◌, List, [], ◌∷◌, Bool, true, false, cond, ◌||◌, Some, refl}
use Rattle.std.specs.Prelude.{is_some, find}
use Rattle.std.proofs.lemmas.List.Folds.{Any-from_list_any, list_any-from_Any}
use Rattle.std.proofs.lemmas.List.Sums.{AllPass-from_list_all, list_all-from_AllPass}
use Rattle.shard_names.specs.declared.alias.Alias.{Alias}
use Rattle.shard_names.specs.declared.tablet.Tablet.{Tablet as TabletData}
use Rattle.shard_names.specs.Tablets.{alias_eq, is_declared}
use Rattle.shard_names.proofs.TabletLemmas.{alias_eq-Decides}
use Rattle.shard_script.specs.declared.script.Action.{Action}
use Rattle.shard_script.specs.Aliases.{aliases_of, IsDeclared, NamesDeclared}
use Rattle.shard_script.specs.Script.{has_alias, all_declared}
use Rattle.shard_script.proofs.TabletsInOrder.{All-map}

-- ---- one alias

declared_of : (tablets : List TabletData) (a : Alias) → has_alias tablets a ≡ true → IsDeclared tablets a
declared_of tablets a h =
    let e = Any-from_list_any (λ (t : TabletData). alias_eq t.alias a) tablets h in
    (e.0, e.1, e.2, e.3, (alias_eq-Decides e.1.alias a).0 e.4)

is_among : (tablets : List TabletData) (a : Alias) → IsDeclared tablets a → has_alias tablets a ≡ true
is_among tablets a e =
    list_any-from_Any (λ (t : TabletData). alias_eq t.alias a) tablets (e.0, e.1, e.2, e.3, (alias_eq-Decides e.1.alias a).1 e.4)

-- it is found among the tablets
pub found : (tablets : List TabletData) (a : Alias) → IsDeclared tablets a → is_declared tablets a ≡ true
found tablets a h = is_found tablets a (is_among tablets a h)
  where
    is_found : (tablets : List TabletData) (a : Alias) → has_alias tablets a ≡ true → is_declared tablets a ≡ true
    is_found [] a among = among
    is_found (t ∷ ts) a among = by_test (alias_eq t.alias a) (is_found ts a) among
      where
        by_test : (b : Bool) → (has_alias ts a ≡ true → is_declared ts a ≡ true) → (b || has_alias ts a) ≡ true → is_some (cond b (Some t) (find (λ u. alias_eq u.alias a) ts)) ≡ true
        by_test true rest h = refl
        by_test false rest h = rest h

-- ---- those of an action

pub names_declared : (tablets : List TabletData) (x : Action) → all_declared tablets x ≡ true → NamesDeclared tablets x
names_declared tablets x h =
    All-map (λ a. has_alias tablets a ≡ true) (IsDeclared tablets) (aliases_of x) (λ a is. declared_of tablets a is) (AllPass-from_list_all (has_alias tablets) (aliases_of x) h)

pub are_declared : (tablets : List TabletData) (x : Action) → NamesDeclared tablets x → all_declared tablets x ≡ true
are_declared tablets x h =
    list_all-from_AllPass (has_alias tablets) (aliases_of x) (All-map (IsDeclared tablets) (λ a. has_alias tablets a ≡ true) (aliases_of x) (λ a is. is_among tablets a is) h)
