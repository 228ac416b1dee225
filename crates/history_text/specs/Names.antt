-- That the readers of `shard_names` read back the names that stand in a line. An alias is written with ten digits and a shard's name with a slash, as the
-- Vitess manual writes them, and names have the bytes and lengths that these readers take.
use Rattle.std.specs.Prelude.{◌≡◌, ℕ, ◌≤◌, ◌<◌, ◌^◌, List, true, Some, Ok, length}
use Rattle.std.specs.List.{list_all}
use Rattle.shard_names.specs.Alias.{is_cell_byte, alias_reading, alias_text}
use Rattle.shard_names.specs.ShardName.{is_label_byte, shard_name_reading, shard_name_text}
use Rattle.shard_names.specs.declared.alias.Alias.{Alias}
use Rattle.shard_names.specs.declared.shard_name.ShardName.{ShardName}

-- a cell: 1 to 32 letters, digits, `_`, `.` and `-`
pub record IsCellName (cell : List ℕ) : Type 0 where
  pub some : 1 ≤ length cell
  pub short : length cell ≤ 32
  pub bytes : list_all is_cell_byte cell ≡ true

-- a keyspace or a shard: 1 to 64 letters, digits, `_` and `-`
pub record IsLabelName (label : List ℕ) : Type 0 where
  pub some : 1 ≤ length label
  pub short : length label ≤ 64
  pub bytes : list_all is_label_byte label ≡ true

-- a tablet: a cell, and a number of 32 bits
pub record IsTabletName (a : Alias) : Type 0 where
  pub cell : IsCellName a.cell
  pub uid : a.uid < 2 ^ 32

-- a keyspace and a shard in it
pub record IsFullName (n : ShardName) : Type 0 where
  pub keyspace : IsLabelName n.keyspace
  pub shard : IsLabelName n.shard

-- ---- laws

abbrev pub AliasesReadBack : Type 0
AliasesReadBack = (a : Alias) → IsTabletName a → alias_reading (alias_text a) ≡ Ok a

abbrev pub ShardsReadBack : Type 0
ShardsReadBack = (n : ShardName) → IsFullName n → shard_name_reading (shard_name_text n) ≡ Some n

-- two tablets have two texts
abbrev pub AliasesDiffer : Type 0
AliasesDiffer = (a b : Alias) → IsTabletName a → IsTabletName b → alias_text a ≡ alias_text b → a ≡ b

-- two shards have two texts
abbrev pub ShardsDiffer : Type 0
ShardsDiffer = (m n : ShardName) → IsFullName m → IsFullName n → shard_name_text m ≡ shard_name_text n → m ≡ n
