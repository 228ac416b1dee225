-- Sets of tablets that accept a write, revoke a primary and establish one (after S. Sougoumarane, Consensus Algorithms at
-- Scale, Establishment and revocation).
use Rattle.std.specs.Prelude.{◌≡◌, ◌≤◌, ◌↔◌, ℕ, Bool, ◌&&◌, nat_le, List, ◌∷◌, ◌++◌, filter, length, IsTrue, All}
use Rattle.std.specs.List.{list_any}
use Rattle.shard_names.specs.declared.alias.Alias.{Alias}
use Rattle.shard_names.specs.declared.tablet.Tablet.{Tablet}
use Rattle.durability.specs.Rules.{Rules, is_eligible}

-- a set of tablets, as a test on their aliases
abbrev pub TabletSet : Type 0
TabletSet = Alias → Bool

-- how many of the primary's ackers are in the set
abbrev pub ackers_in : Rules → List Tablet → Tablet → TabletSet → ℕ
ackers_in rules tablets primary set = length (filter (λ t. rules.is_acker primary t && set t.alias) tablets)

-- a set is accepted for a primary where it has the primary, and as many of the primary's ackers as the policy asks for
pub record Accepted (rules : Rules) (tablets : List Tablet) (primary : Tablet) (set : TabletSet) : Type 0 where
  pub primary_in : IsTrue (set primary.alias)
  pub enough : rules.acks primary ≤ ackers_in rules tablets primary set

-- the same as a test
abbrev pub is_accepted : Rules → List Tablet → Tablet → TabletSet → Bool
is_accepted rules tablets primary set = set primary.alias && nat_le (rules.acks primary) (ackers_in rules tablets primary set)

abbrev pub TestIsAccepted : Type 0
TestIsAccepted =
    (rules : Rules) (tablets : List Tablet) (primary : Tablet) (set : TabletSet)
    → IsTrue (is_accepted rules tablets primary set) ↔ Accepted rules tablets primary set

-- some tablet is in both sets
abbrev pub Meets : List Tablet → TabletSet → TabletSet → Type 0
Meets tablets a b = IsTrue (list_any (λ t. a t.alias && b t.alias) tablets)

-- the one set has all tablets of the other
abbrev pub HasAll : List Tablet → TabletSet → TabletSet → Type 0
HasAll tablets a b = All (λ t. IsTrue (b t.alias) → IsTrue (a t.alias)) tablets

-- a set revokes a primary where it meets every set that is accepted for it
abbrev pub RevokesPrimary : Rules → List Tablet → TabletSet → Tablet → Type 0
RevokesPrimary rules tablets reached primary =
    (set : TabletSet) → Accepted rules tablets primary set → Meets tablets reached set

-- a set revokes where it revokes every tablet that may be promoted
abbrev pub Revokes : Rules → List Tablet → TabletSet → Type 0
Revokes rules tablets reached = All (λ t. IsTrue (is_eligible rules t) → RevokesPrimary rules tablets reached t) tablets

-- a set can establish a tablet where it has all of some set that is accepted for it
pub record Establishes (rules : Rules) (tablets : List Tablet) (reached : TabletSet) (chosen : Tablet) : Type 0 where
  pub quorum : TabletSet
  pub accepted : Accepted rules tablets chosen quorum
  pub within : HasAll tablets reached quorum

-- the alias is that of the first tablet in the list that may be promoted and is not revoked
pub record IsFirstUnrevoked (rules : Rules) (tablets : List Tablet) (reached : TabletSet) (alias : Alias) : Type 0 where
  pub before : List Tablet
  pub tablet : Tablet
  pub after : List Tablet
  pub split : tablets ≡ before ++ tablet ∷ after
  pub named : alias ≡ tablet.alias
  pub eligible : IsTrue (is_eligible rules tablet)
  pub unrevoked : RevokesPrimary rules tablets reached tablet → ⊥
  pub earlier : All (λ t. IsTrue (is_eligible rules t) → RevokesPrimary rules tablets reached t) before
