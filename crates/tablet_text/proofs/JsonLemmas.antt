-- Values that are built member by member, and their texts.
use Rattle.std.proofs.Common.{◌≡◌, false, ℕ, List, [], ◌∷◌, ◌++◌, Option, Some, None, Result, Ok, Err, OnOk, map, refl, ap, ◌∙◌}
use Rattle.serde_json.specs.Data.{Data, Members, put}
use Rattle.serde_json.specs.View.{items_of}
use Rattle.serde_json.specs.Written.{has_float, items_have_float, compact_text}
use Rattle.shard_names.specs.declared.shard_name.ShardName.{ShardName}
use Rattle.topo_lock.specs.declared.intent.Record.{Record}
use Rattle.shard_calls.specs.declared.ending.TabletRow.{TabletRow}
use Rattle.tablet_text.specs.Json.{text_data, shard_data, tablet_data, tablets_data}

-- one more member, under a key
pub then_put : {m n o : Members} {d e : Data} (k : List ℕ) → m ≡ put k d n → d ≡ e → n ≡ o → m ≡ put k e o
then_put {m} {n} {o} {d} {e} k is value before = is ∙ ap (λ (x : Data). put k x n) value ∙ ap (λ (x : Members). put k e x) before

-- the text of a value that is the one of the definitions
pub text_of : {T E : Type 0} (r : Result T E) (a b : List ℕ) (d e : Data) → d ≡ e → has_float e ≡ false
    → OnOk r (has_float d ≡ false → b ≡ a ++ compact_text d) → OnOk r (b ≡ a ++ compact_text e)
text_of (Ok x) a b d e same none h = h (ap has_float same ∙ none) ∙ ap (λ (v : Data). a ++ compact_text v) same
text_of (Err x) a b d e same none h = tt

-- ---- no value has a float

pub shard_has_no_float : (name : ShardName) (recorded : Option Record) → has_float (shard_data name recorded) ≡ false
unfolding shard_data text_data
shard_has_no_float name None = refl
shard_has_no_float name (Some r) = refl

rows_have_no_float : (rows : List TabletRow) → items_have_float (items_of (map tablet_data rows)) ≡ false
unfolding tablet_data text_data
rows_have_no_float [] = refl
rows_have_no_float (r ∷ rows) = rows_have_no_float rows

pub tablets_have_no_float : (rows : List TabletRow) → has_float (tablets_data rows) ≡ false
unfolding tablets_data
tablets_have_no_float rows = rows_have_no_float rows
