-- What a durability policy says of tablets (Vitess manual, Durability Policy).
use Rattle.std.specs.Prelude.{ℕ, Bool, true, false, ◌≢◌, IsTrue}
use Rattle.shard_names.specs.declared.tablet.Tablet.{Tablet}
use Rattle.shard_names.specs.declared.tablet.PromotionRule.{PromotionRule}
use Rattle.shard_names.specs.declared.tablet.PromotionRule.TheVariants.{Must, Prefer, Neutral, PreferNot, MustNot}

-- how many ackers a primary needs, which tablets are its ackers, and how fit each tablet is to be promoted
pub record Rules : Type 0 where
  pub acks : Tablet → ℕ
  pub is_acker : Tablet → Tablet → Bool
  pub rule : Tablet → PromotionRule

-- no tablet is its own acker
pub record IsLawful (rules : Rules) : Type 0 where
  pub no_own_acker : (primary other : Tablet) → IsTrue (rules.is_acker primary other) → primary.alias ≢ other.alias

-- a tablet of each other rule than must_not may be promoted
abbrev pub may_be_promoted : PromotionRule → Bool
may_be_promoted Must = true
may_be_promoted Prefer = true
may_be_promoted Neutral = true
may_be_promoted PreferNot = true
may_be_promoted MustNot = false

abbrev pub is_eligible : Rules → Tablet → Bool
is_eligible rules t = may_be_promoted (rules.rule t)
