-- The five policies (Vitess manual, Durability Policy) have the laws of a policy.
use Rattle.std.proofs.Common.{◌≡◌, ◌≢◌, Bool, true, false, not, IsTrue, ap}
use Rattle.std.specs.Str.{bytes_eq}
use Rattle.std.proofs.lemmas.Slice.Eq.{bytes_eq-Decides}
use Rattle.shard_names.specs.declared.tablet.Tablet.{Tablet}
use Rattle.shard_names.specs.Tablets.{alias_eq}
use Rattle.shard_names.proofs.TabletLemmas.{alias_eq-Decides, both_left}
use Rattle.durability.specs.declared.policy.Durability.{Durability}
use Rattle.durability.specs.declared.policy.Durability.TheVariants.{None, SemiSync, CrossCell, SemiSyncWithRdonlyAck, CrossCellWithRdonlyAck}
use Rattle.durability.specs.Rules.{IsLawful}
use Rattle.durability.specs.Policies.{rules_of, is_other, is_in_other_cell, is_replica, is_replica_or_rdonly, is_acker_under}

not_both : (b : Bool) → not b ≡ true → b ≡ true → ⊥
not_both true n h = absurd (cc)
not_both false n h = absurd (cc)

other_differs : (primary other : Tablet) → is_other primary other ≡ true → primary.alias ≢ other.alias
other_differs primary other h same =
    not_both (alias_eq primary.alias other.alias) h ((alias_eq-Decides primary.alias other.alias).1 same)

other_cell_differs : (primary other : Tablet) → is_in_other_cell primary other ≡ true → primary.alias ≢ other.alias
other_cell_differs primary other h same =
    not_both (bytes_eq primary.alias.cell other.alias.cell) h ((bytes_eq-Decides primary.alias.cell other.alias.cell).1 (ap (λ a. a.cell) same))

acker_differs : (policy : Durability) (primary other : Tablet) → IsTrue (is_acker_under policy primary other) → primary.alias ≢ other.alias
acker_differs None primary other h = absurd (cc)
acker_differs SemiSync primary other h = other_differs primary other (both_left _ (is_replica other) h)
acker_differs CrossCell primary other h = other_cell_differs primary other (both_left _ (is_replica other) h)
acker_differs SemiSyncWithRdonlyAck primary other h = other_differs primary other (both_left _ (is_replica_or_rdonly other) h)
acker_differs CrossCellWithRdonlyAck primary other h = other_cell_differs primary other (both_left _ (is_replica_or_rdonly other) h)

pub five_lawful : (policy : Durability) → IsLawful (rules_of policy)
five_lawful policy = record { no_own_acker = acker_differs policy }
