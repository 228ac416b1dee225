use Rattle.serde_json.specs.View.{view}
use Rattle.tablet_text.specs.Json.{tablets_data, tablets_json}
use Rattle.tablet_text.proofs.JsonLemmas.{text_of, tablets_have_no_float}
use Rattle.tablet_text.proofs.json.write_tablets.Goals as goal

pub returns : goal.returns
unfolding tablets_json
returns c =
    text_of c.append_json.result c.args.into.now.items c.append_json.new.into.items (view c.in_ok-value.value) (tablets_data c.args.rows.now)
    c.in_ok-value.ensures (tablets_have_no_float c.args.rows.now) c.append_json.ensures
