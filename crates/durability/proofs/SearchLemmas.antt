-- The first tablet that a search by counts finds is the first that the sets leave unrevoked.
use Rattle.std.proofs.Common.{◌≡◌, arith, Bool, true, false, not, ◌&&◌, refl, sym, ap, ◌∙◌, List, [], ◌∷◌, ◌++◌, Some, None, subst, cond, get_or, IsTrue}
use Rattle.std.specs.List.{find, All, Contains}
use Rattle.std.proofs.lemmas.List.Elements.{All-nil, All-cons, All-contains, Contains-get_or, Contains-append_left, Contains-append_right}
use Rattle.shard_names.specs.declared.alias.Alias.{Alias}
use Rattle.shard_names.specs.declared.tablet.Tablet.{Tablet}
use Rattle.shard_names.proofs.TabletLemmas.{both_left, both_right}
use Rattle.durability.specs.Rules.{Rules, is_eligible}
use Rattle.durability.specs.Sets.{TabletSet, RevokesPrimary, Revokes, IsFirstUnrevoked}
use Rattle.durability.specs.Counting.{is_revoked, is_unrevoked}
use Rattle.durability.proofs.CountingLemmas.{counting_revokes}

-- what a search for the first element found
record Found (test : Tablet → Bool) (ts : List Tablet) (t : Tablet) : Type 0 where
  before : List Tablet
  after : List Tablet
  split : ts ≡ before ++ t ∷ after
  passes : test t ≡ true
  earlier : All (λ u. test u ≡ false) before

found_later : (test : Tablet → Bool) (u : Tablet) (ts : List Tablet) (t : Tablet) → test u ≡ false → Found test ts t → Found test (u ∷ ts) t
found_later test u ts t fails f = record {
  before = u ∷ f.before;
  after = f.after;
  split = ap (λ (xs : List Tablet). u ∷ xs) f.split;
  passes = f.passes;
  earlier = All-cons (λ v. test v ≡ false) u f.before fails f.earlier;
}

found : (test : Tablet → Bool) (ts : List Tablet) (t : Tablet) → find test ts ≡ Some t → Found test ts t
found test [] t h = absurd (cc)
found test (u ∷ ts) t h =
    elim (test u) as (λ b. test u ≡ b → cond b (Some u) (find test ts) ≡ Some t → Found test (u ∷ ts) t) [
      | true ↦ λ e same. let here : u ≡ t = cc in record {
        before = [];
        after = ts;
        split = ap (λ v. v ∷ ts) here;
        passes = ap test (sym here) ∙ e;
        earlier = All-nil (λ v. test v ≡ false);
      }
      | false ↦ λ e rest. found_later test u ts t e (found test ts t rest)
    ] refl h

none_passes : (test : Tablet → Bool) (ts : List Tablet) → find test ts ≡ None → All (λ t. test t ≡ false) ts
none_passes test [] h = All-nil (λ t. test t ≡ false)
none_passes test (u ∷ ts) h =
    elim (test u) as (λ b. test u ≡ b → cond b (Some u) (find test ts) ≡ None → All (λ t. test t ≡ false) (u ∷ ts)) [
      | true ↦ λ e same. absurd (cc)
      | false ↦ λ e rest. All-cons (λ t. test t ≡ false) u ts e (none_passes test ts rest)
    ] refl h

revoked_of : (eligible counted : Bool) → (eligible && not counted) ≡ false → eligible ≡ true → counted ≡ true
revoked_of true true h e = refl
revoked_of true false h e = absurd (cc)
revoked_of false counted h e = absurd (cc)

-- a tablet of the list that the search passes over is revoked, if it may be promoted
passed_over : (rules : Rules) (tablets : List Tablet) (reached : TabletSet) (t : Tablet) → Contains tablets t
    → is_unrevoked rules tablets reached t ≡ false → IsTrue (is_eligible rules t) → RevokesPrimary rules tablets reached t
unfolding is_unrevoked
passed_over rules tablets reached t declared fails eligible =
    (counting_revokes rules tablets reached t declared).0 (revoked_of (is_eligible rules t) (is_revoked rules tablets reached t) fails eligible)

pub none_found : (rules : Rules) (tablets : List Tablet) (reached : TabletSet)
    → find (is_unrevoked rules tablets reached) tablets ≡ None → Revokes rules tablets reached
none_found rules tablets reached h k d within =
    passed_over rules tablets reached (get_or tablets k d) (Contains-get_or tablets k d within) (none_passes (is_unrevoked rules tablets reached) tablets h k d within)

in_middle : (before after : List Tablet) (t : Tablet) → Contains (before ++ t ∷ after) t
in_middle before after t = Contains-append_right before (t ∷ after) t (0, omega arith, refl)

pub first_found : (rules : Rules) (tablets : List Tablet) (reached : TabletSet) (t : Tablet)
    → find (is_unrevoked rules tablets reached) tablets ≡ Some t → IsFirstUnrevoked rules tablets reached t.alias
unfolding is_unrevoked
first_found rules tablets reached t h =
    let f = found (is_unrevoked rules tablets reached) tablets t h in
    let declared : Contains tablets t = subst (λ (ts : List Tablet). Contains ts t) (sym f.split) (in_middle f.before f.after t) in
    record {
      before = f.before;
      tablet = t;
      after = f.after;
      split = f.split;
      named = refl;
      eligible = both_left (is_eligible rules t) _ f.passes;
      unrevoked = λ revokes. not_revoked (is_revoked rules tablets reached t) (both_right (is_eligible rules t) _ f.passes) ((counting_revokes rules tablets reached t declared).1 revokes);
      earlier = λ k d within. passed_over rules tablets reached (get_or f.before k d)
          (subst (λ (ts : List Tablet). Contains ts (get_or f.before k d)) (sym f.split)
          (Contains-append_left f.before (t ∷ f.after) (get_or f.before k d) (Contains-get_or f.before k d within)))
          (f.earlier k d within);
    } where
      not_revoked : (b : Bool) → not b ≡ true → b ≡ true → ⊥
      not_revoked true n y = absurd (cc)
      not_revoked false n y = absurd (cc)

-- where a tablet is left unrevoked, the set does not revoke
pub first_not_revoked : (rules : Rules) (tablets : List Tablet) (reached : TabletSet) (a : Alias)
    → IsFirstUnrevoked rules tablets reached a → Revokes rules tablets reached → ⊥
first_not_revoked rules tablets reached a f revokes =
    f.unrevoked (All-contains (λ t. IsTrue (is_eligible rules t) → RevokesPrimary rules tablets reached t) tablets f.tablet revokes
    (subst (λ (ts : List Tablet). Contains ts f.tablet) (sym f.split) (in_middle f.before f.after f.tablet)) f.eligible)

-- what a search finds is in the list, and passes
pub found_in : (test : Tablet → Bool) (ts : List Tablet) (t : Tablet) → find test ts ≡ Some t → Contains ts t
found_in test ts t h =
    let f = found test ts t h in subst (λ (us : List Tablet). Contains us t) (sym f.split) (in_middle f.before f.after t)

pub found_passes : (test : Tablet → Bool) (ts : List Tablet) (t : Tablet) → find test ts ≡ Some t → test t ≡ true
found_passes test ts t h = (found test ts t h).passes
