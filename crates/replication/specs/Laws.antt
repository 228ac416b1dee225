-- What holds of every policy, every shard and all acknowledgements (after S. Sougoumarane, Consensus Algorithms at Scale).
use Rattle.std.specs.Prelude.{◌≡◌, ◌≢◌, ◌≤◌, ◌<◌, ℕ, List, IsTrue, All, Contains, ◌↔◌}
use Rattle.shard_names.specs.declared.alias.Alias.{Alias}
use Rattle.shard_names.specs.declared.tablet.Tablet.{Tablet}
use Rattle.durability.specs.declared.policy.Durability.TheVariants as policy
use Rattle.durability.specs.Rules.{Rules, IsLawful}
use Rattle.durability.specs.Policies.{rules_of}
use Rattle.replication.specs.Acks.{Acked, raised, after_acks}
use Rattle.replication.specs.Told.{Told}

-- a tablet's index is at least each that it acknowledged, and is one of these, or 0
abbrev pub KeepsGreatest : Type 0
KeepsGreatest =
    (acks : List (Alias × ℕ)) (a : Alias)
    → All (λ k. k.0 ≡ a → k.1 ≤ after_acks acks a) acks × (0 < after_acks acks a → Contains acks (a, after_acks acks a))

-- where no index is below what it was, what was told is told
abbrev pub MoreStaysTold : Type 0
MoreStaysTold =
    (rules : Rules) (tablets : List Tablet) (primary : Tablet) (before after : Acked) (index : ℕ)
    → ((a : Alias) → before a ≤ after a) → Told rules tablets primary before index → Told rules tablets primary after index

-- one more acknowledgement takes nothing back
abbrev pub AckStaysTold : Type 0
AckStaysTold =
    (rules : Rules) (tablets : List Tablet) (primary : Tablet) (acked : Acked) (from : Alias) (up_to index : ℕ)
    → Told rules tablets primary acked index → Told rules tablets primary (raised from up_to acked) index

abbrev pub LowerIsTold : Type 0
LowerIsTold =
    (rules : Rules) (tablets : List Tablet) (primary : Tablet) (acked : Acked) (low high : ℕ)
    → low ≤ high → Told rules tablets primary acked high → Told rules tablets primary acked low

-- under the policy `none` nothing waits
abbrev pub NoneTellsAll : Type 0
NoneTellsAll =
    (tablets : List Tablet) (primary : Tablet) (acked : Acked) (index : ℕ) → Told (rules_of policy.None) tablets primary acked index

-- the alias is that of no tablet whose acknowledgement counts for the primary
abbrev pub IsNoAcker : Rules → List Tablet → Tablet → Alias → Type 0
IsNoAcker rules tablets primary from = All (λ t. IsTrue (rules.is_acker primary t) → t.alias ≢ from) tablets

abbrev pub NoAckerChangesNothing : Type 0
NoAckerChangesNothing =
    (rules : Rules) (tablets : List Tablet) (primary : Tablet) (acked : Acked) (from : Alias) (up_to index : ℕ)
    → IsNoAcker rules tablets primary from
    → Told rules tablets primary (raised from up_to acked) index ↔ Told rules tablets primary acked index

-- the primary's own acknowledgement says nothing that is not known
abbrev pub OwnAckChangesNothing : Type 0
OwnAckChangesNothing =
    (rules : Rules) (tablets : List Tablet) (primary : Tablet) (acked : Acked) (up_to index : ℕ)
    → Told rules tablets primary (raised primary.alias up_to acked) index ↔ Told rules tablets primary acked index

-- some other tablet, which counts for the primary, acknowledged the index
pub record IsElsewhere (rules : Rules) (tablets : List Tablet) (primary : Tablet) (acked : Acked) (index : ℕ) : Type 0 where
  pub tablet : Tablet
  pub among : Contains tablets tablet
  pub other : primary.alias ≢ tablet.alias
  pub acker : IsTrue (rules.is_acker primary tablet)
  pub has : index ≤ acked tablet.alias

-- under a policy that asks for acknowledgements, what is told is not at the primary alone
abbrev pub ToldIsElsewhere : Type 0
ToldIsElsewhere =
    (rules : Rules) (tablets : List Tablet) (primary : Tablet) (acked : Acked) (index : ℕ) → IsLawful rules → 0 < rules.acks primary
    → Told rules tablets primary acked index → IsElsewhere rules tablets primary acked index
