-- The text of a shard's name: a keyspace, a slash and a shard, as the Vitess manual writes one.
use Rattle.std.specs.Prelude.{ℕ, ◌+◌, List, ◌∷◌, ◌++◌, Bool, ◌&&◌, ◌||◌, ◌==◌, nat_le, Option, Some, None, if◌then◌else◌, length, take, drop, position}
use Rattle.std.specs.List.{list_all}
use Rattle.shard_base.specs.Options.{◌>>=◌}
use Rattle.shard_names.specs.Alias.{is_digit, is_letter}
use Rattle.shard_names.specs.declared.shard_name.ShardName.{ShardName}

-- letters, digits, `_` and `-`
unfoldable pub is_label_byte : ℕ → Bool
is_label_byte b = is_digit b || is_letter b || (b == 95) || (b == 45)

-- 1 to 64 of these
unfoldable pub label_reading : List ℕ → Option (List ℕ)
label_reading text = if nat_le 1 (length text) && list_all is_label_byte text && nat_le (length text) 64 then Some text else None

-- the first slash
abbrev pub slash_place : List ℕ → Option ℕ
slash_place text = position (λ b. b == 47) text

unfoldable pub shard_name_reading : List ℕ → Option ShardName
shard_name_reading text = do
  slash ← slash_place text
  keyspace ← label_reading (take slash text)
  shard ← label_reading (drop (slash + 1) text)
  Some (record { keyspace = keyspace; shard = shard })

abbrev pub shard_name_text : ShardName → List ℕ
shard_name_text n = n.keyspace ++ 47 ∷ n.shard
