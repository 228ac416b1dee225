-- Which indexes of a primary's log count as committed. The primary has each itself, and its durability policy says how many other
-- tablets must have acknowledged it, and which (Vitess manual, Durability Policy; after S. Sougoumarane, Consensus Algorithms at
-- Scale, Completing requests).
use Rattle.std.specs.Prelude.{ℕ, ◌||◌, nat_le, List}
use Rattle.shard_names.specs.declared.alias.Alias.{Alias}
use Rattle.shard_names.specs.declared.tablet.Tablet.{Tablet}
use Rattle.shard_names.specs.Tablets.{alias_eq}
use Rattle.durability.specs.Rules.{Rules}
use Rattle.durability.specs.Sets.{TabletSet, Accepted}
use Rattle.replication.specs.Acks.{Acked}

-- the primary, with the tablets that acknowledged at least this index
abbrev pub holders : Acked → Alias → ℕ → TabletSet
holders acked primary index a = alias_eq a primary || nat_le index (acked a)

-- an index is told where those that hold it are a set that the policy accepts
abbrev pub Told : Rules → List Tablet → Tablet → Acked → ℕ → Type 0
Told rules tablets primary acked index = Accepted rules tablets primary (holders acked primary.alias index)
