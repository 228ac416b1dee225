-- What is printed of a shard and of its tablets: compact JSON (RFC 8259), as the kit's `serde_json` writes the values below. An object has its keys in
-- the order of the alphabet.
use Rattle.std.specs.Prelude.{ℕ, List, map, Option, Some, None, codes}
use Rattle.std.specs.Str.Lossy.{utf8_lossy}
use Rattle.uuid.specs.Text.{hyphenated_text, lower}
use Rattle.serde_json.specs.Data.{Data, null, string, number, unsigned, array, object, member, no_members}
use Rattle.serde_json.specs.View.{items_of}
use Rattle.serde_json.specs.Written.{compact_text}
use Rattle.shard_names.specs.Alias.{alias_text}
use Rattle.shard_names.specs.declared.shard_name.ShardName.{ShardName}
use Rattle.topo_lock.specs.declared.intent.Record.{Record}
use Rattle.shard_calls.specs.declared.ending.ShownType.{ShownType}
use Rattle.shard_calls.specs.declared.ending.ShownType.TheVariants as kinds
use Rattle.shard_calls.specs.declared.ending.TabletRow.{TabletRow}
use Rattle.tablet_text.specs.Moments.{moment_text}

-- a text, as JSON may hold it: what is no UTF-8 in it is U+FFFD
unfoldable pub text_data : List ℕ → Data
text_data text = string (utf8_lossy text)

-- ---- a shard

-- the alias of the recorded primary
abbrev pub recorded_alias : Option Record → Data
recorded_alias None = null
recorded_alias (Some r) = text_data (alias_text r.alias)

-- when it was recorded
abbrev pub recorded_time : Option Record → Data
recorded_time None = null
recorded_time (Some r) = text_data (moment_text r.moment)

abbrev pub recorded_term : Option Record → ℕ
recorded_term None = 0
recorded_term (Some r) = r.term

unfoldable pub shard_data : ShardName → Option Record → Data
shard_data name recorded =
    object
    (member (codes "keyspace") (text_data name.keyspace)
    (member (codes "primary_alias") (recorded_alias recorded)
    (member (codes "primary_term_start_time") (recorded_time recorded)
    (member (codes "shard") (text_data name.shard)
    (member (codes "term") (number (unsigned (recorded_term recorded))) no_members)))))

unfoldable pub shard_json : ShardName → Option Record → List ℕ
shard_json name recorded = compact_text (shard_data name recorded)

-- ---- tablets

abbrev pub kind_text : ShownType → List ℕ
kind_text kinds.Primary = codes "PRIMARY"
kind_text kinds.Drained = codes "DRAINED"
kind_text kinds.Replica = codes "REPLICA"
kind_text kinds.Rdonly = codes "RDONLY"
kind_text kinds.Spare = codes "SPARE"

unfoldable pub tablet_data : TabletRow → Data
tablet_data r =
    object
    (member (codes "alias") (text_data (alias_text r.alias))
    (member (codes "cell") (text_data r.alias.cell)
    (member (codes "server") (string (hyphenated_text lower r.server))
    (member (codes "type") (string (kind_text r.kind)) no_members))))

unfoldable pub tablets_data : List TabletRow → Data
tablets_data rows = array (items_of (map tablet_data rows))

unfoldable pub tablets_json : List TabletRow → List ℕ
tablets_json rows = compact_text (tablets_data rows)
