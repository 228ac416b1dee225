-- The five durability policies (Vitess manual, Durability Policy): how many acknowledgements a write needs, which types of
-- tablets give them and from which cells, and which types may be promoted. A primary's declared type is REPLICA.
use Rattle.std.specs.Prelude.{ℕ, Bool, true, false, not, ◌&&◌, List, codes}
use Rattle.std.specs.Str.{bytes_eq}
use Rattle.shard_names.specs.declared.tablet.Tablet.{Tablet}
use Rattle.shard_names.specs.declared.tablet.TabletType.{TabletType}
use Rattle.shard_names.specs.declared.tablet.TabletType.TheVariants.{Replica, Rdonly, Spare}
use Rattle.shard_names.specs.declared.tablet.PromotionRule.{PromotionRule}
use Rattle.shard_names.specs.declared.tablet.PromotionRule.TheVariants.{Neutral, MustNot}
use Rattle.shard_names.specs.Tablets.{alias_eq}
use Rattle.durability.specs.declared.policy.Durability.{Durability}
use Rattle.durability.specs.declared.policy.Durability.TheVariants.{None, SemiSync, CrossCell, SemiSyncWithRdonlyAck, CrossCellWithRdonlyAck}
use Rattle.durability.specs.Rules.{Rules}

-- the name that the manual gives it
abbrev pub policy_name : Durability → List ℕ
policy_name None = codes "none"
policy_name SemiSync = codes "semi_sync"
policy_name CrossCell = codes "cross_cell"
policy_name SemiSyncWithRdonlyAck = codes "semi_sync_with_rdonly_ack"
policy_name CrossCellWithRdonlyAck = codes "cross_cell_with_rdonly_ack"

-- how many acknowledgements a write needs
abbrev pub acks_of : Durability → ℕ
acks_of None = 0
acks_of SemiSync = 1
acks_of CrossCell = 1
acks_of SemiSyncWithRdonlyAck = 1
acks_of CrossCellWithRdonlyAck = 1

abbrev pub is_other : Tablet → Tablet → Bool
is_other primary other = not (alias_eq primary.alias other.alias)

abbrev pub is_in_other_cell : Tablet → Tablet → Bool
is_in_other_cell primary other = not (bytes_eq primary.alias.cell other.alias.cell)

abbrev replica_type : TabletType → Bool
replica_type Replica = true
replica_type Rdonly = false
replica_type Spare = false

abbrev replica_or_rdonly_type : TabletType → Bool
replica_or_rdonly_type Replica = true
replica_or_rdonly_type Rdonly = true
replica_or_rdonly_type Spare = false

abbrev pub is_replica : Tablet → Bool
is_replica t = replica_type t.kind

abbrev pub is_replica_or_rdonly : Tablet → Bool
is_replica_or_rdonly t = replica_or_rdonly_type t.kind

-- whose acknowledgement counts for a primary
abbrev pub is_acker_under : Durability → Tablet → Tablet → Bool
is_acker_under None primary other = false
is_acker_under SemiSync primary other = is_other primary other && is_replica other
is_acker_under CrossCell primary other = is_in_other_cell primary other && is_replica other
is_acker_under SemiSyncWithRdonlyAck primary other = is_other primary other && is_replica_or_rdonly other
is_acker_under CrossCellWithRdonlyAck primary other = is_in_other_cell primary other && is_replica_or_rdonly other

-- under each of the five, a replica is as fit as any other, and no other type may be promoted
abbrev rule_of_type : TabletType → PromotionRule
rule_of_type Replica = Neutral
rule_of_type Rdonly = MustNot
rule_of_type Spare = MustNot

abbrev pub rules_of : Durability → Rules
rules_of policy = record { acks = λ primary. acks_of policy; is_acker = is_acker_under policy; rule = λ t. rule_of_type t.kind }
