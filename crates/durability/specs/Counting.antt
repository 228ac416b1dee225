-- The tests by counts that programs make in place of the definitions over all sets, and that they say the same (after S. Sougoumarane,
-- Consensus Algorithms at Scale).
use Rattle.std.specs.Prelude.{Bool, not, ◌&&◌, ◌||◌, nat_lt, List, IsTrue, Contains, ◌↔◌}
use Rattle.shard_names.specs.declared.tablet.Tablet.{Tablet}
use Rattle.durability.specs.Rules.{Rules, is_eligible}
use Rattle.durability.specs.Sets.{TabletSet, ackers_in, is_accepted, RevokesPrimary, Establishes}

-- the primary is reached, or fewer of its ackers are left unreached than it needs
abbrev pub is_revoked : Rules → List Tablet → TabletSet → Tablet → Bool
is_revoked rules tablets reached primary =
    reached primary.alias || nat_lt (ackers_in rules tablets primary (λ a. not (reached a))) (rules.acks primary)

-- a tablet that may be promoted and is not revoked
unfoldable pub is_unrevoked : Rules → List Tablet → TabletSet → Tablet → Bool
is_unrevoked rules tablets reached t = is_eligible rules t && not (is_revoked rules tablets reached t)

abbrev pub CountingIsRevocation : Type 0
CountingIsRevocation =
    (rules : Rules) (tablets : List Tablet) (reached : TabletSet) (primary : Tablet) → Contains tablets primary
    → IsTrue (is_revoked rules tablets reached primary) ↔ RevokesPrimary rules tablets reached primary

abbrev pub CountingIsEstablishing : Type 0
CountingIsEstablishing =
    (rules : Rules) (tablets : List Tablet) (reached : TabletSet) (chosen : Tablet) → Contains tablets chosen
    → IsTrue (is_accepted rules tablets chosen reached) ↔ Establishes rules tablets reached chosen
