-- How far each tablet has acknowledged a primary's log. A replica acknowledges an entry once it has written it (MySQL 8.0 manual,
-- Semisynchronous Replication); it reads in order, so it has all that stand before too. Indexes count from 1.
use Rattle.std.specs.Prelude.{ℕ, max, List, [], ◌∷◌, map, if◌then◌else◌}
use Rattle.shard_names.specs.declared.alias.Alias.{Alias}
use Rattle.shard_names.specs.declared.tablet.Tablet.{Tablet}
use Rattle.shard_names.specs.Tablets.{alias_eq}

-- the greatest index that each tablet acknowledged, 0 for none
abbrev pub Acked : Type 0
Acked = Alias → ℕ

abbrev pub none_acked : Acked
none_acked a = 0

-- a tablet acknowledged up to this index: its index never falls, and no other's changes
abbrev pub raised : Alias → ℕ → Acked → Acked
raised from index acked a = if alias_eq a from then max index (acked a) else acked a

-- what a primary knows after these acknowledgements, the latest first
abbrev pub after_acks : List (Alias × ℕ) → Acked
after_acks [] = none_acked
after_acks (k ∷ earlier) = raised k.0 k.1 (after_acks earlier)

-- a table of them: the tablets' aliases in order, and the index beside each
pub record Acks : Type 0 where
  pub aliases : List Alias
  pub indexes : List ℕ

abbrev pub aliases_of : List Tablet → List Alias
aliases_of tablets = map (λ t. t.alias) tablets

-- the index beside an alias, or 0
abbrev pub acked_of : List Alias → List ℕ → Acked
acked_of [] indexes a = 0
acked_of (x ∷ xs) [] a = 0
acked_of (x ∷ xs) (i ∷ is) a = if alias_eq a x then i else acked_of xs is a

abbrev pub acked_in : Acks → Acked
acked_in table a = acked_of table.aliases table.indexes a
