use Rattle.serde_json.specs.View.{view}
use Rattle.tablet_text.specs.Json.{shard_data, shard_json}
use Rattle.tablet_text.proofs.JsonLemmas.{text_of, shard_has_no_float}
use Rattle.tablet_text.proofs.json.write_shard.Goals as goal

pub returns : goal.returns
unfolding shard_json
returns c =
    text_of c.append_json.result c.args.into.now.items c.append_json.new.into.items (view c.in_ok-value.value) (shard_data c.args.shard.now c.args.recorded.now)
    c.in_ok-value.ensures (shard_has_no_float c.args.shard.now c.args.recorded.now) c.append_json.ensures
