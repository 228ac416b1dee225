-- What the count of reached ackers says of the tablet that was chosen.
use Rattle.std.proofs.Common.{◌≡◌, ◌≤◌, ◌<◌, true, false, refl, sym, subst, arith, List, Option, Some, IfSome, ◌↔◌}
use Rattle.shard_names.specs.declared.alias.Alias.{Alias}
use Rattle.shard_names.specs.declared.tablet.Tablet.{Tablet}
use Rattle.shard_names.specs.Tablets.{alias_eq, tablet_of}
use Rattle.shard_names.proofs.TabletLemmas.{alias_eq_is}
use Rattle.durability.specs.Rules.{Rules}
use Rattle.durability.specs.Sets.{TabletSet, ackers_in, Establishes}
use Rattle.durability.proofs.CountingLemmas.{counting_establishes, accepted_of, is_accepted_of}
use Rattle.durability.proofs.SearchLemmas.{found_in, found_passes}

-- the tablet of an alias is one of the tablets, and has that alias
tablet_has : (tablets : List Tablet) (a : Alias) (t : Tablet) → tablet_of tablets a ≡ Some t → t.alias ≡ a
tablet_has tablets a t h = alias_eq_is t.alias a (found_passes (λ u. alias_eq u.alias a) tablets t h)

reached_has : (tablets : List Tablet) (a : Alias) (t : Tablet) (reached : TabletSet) → tablet_of tablets a ≡ Some t → reached a ≡ true → reached t.alias ≡ true
reached_has tablets a t reached h is = subst (λ (b : Alias). reached b ≡ true) (sym (tablet_has tablets a t h)) is

-- enough of its ackers are reached
pub enough_establish : (rules : Rules) (tablets : List Tablet) (reached : TabletSet) (a : Alias) (t : Tablet) → tablet_of tablets a ≡ Some t → reached a ≡ true
    → rules.acks t ≤ ackers_in rules tablets t reached → IfSome (tablet_of tablets a) (λ c. true ≡ true ↔ Establishes rules tablets reached c)
enough_establish rules tablets reached a t h is enough =
    let established : Establishes rules tablets reached t = (counting_establishes rules tablets reached t (found_in (λ u. alias_eq u.alias a) tablets t h)).0
    (is_accepted_of rules tablets t reached (record { primary_in = reached_has tablets a t reached h is; enough = enough })) in
    subst (λ (o : Option Tablet). IfSome o (λ c. true ≡ true ↔ Establishes rules tablets reached c)) (sym h) ((λ _. established), (λ _. refl))

-- too few of its ackers are reached
pub short_fails : (rules : Rules) (tablets : List Tablet) (reached : TabletSet) (a : Alias) (t : Tablet) → tablet_of tablets a ≡ Some t
    → ackers_in rules tablets t reached < rules.acks t → IfSome (tablet_of tablets a) (λ c. false ≡ true ↔ Establishes rules tablets reached c)
short_fails rules tablets reached a t h short =
    subst (λ (o : Option Tablet). IfSome o (λ c. false ≡ true ↔ Establishes rules tablets reached c)) (sym h) (
      (λ (e : false ≡ true). absurd (cc)),
      (λ (e : Establishes rules tablets reached t). absurd (let enough = (accepted_of rules tablets t reached ((counting_establishes rules tablets reached t (found_in (λ u. alias_eq u.alias a) tablets t h)).1 e)).enough in omega (arith, enough, short))),
    )
