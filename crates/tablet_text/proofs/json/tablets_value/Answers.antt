use Rattle.std.proofs.Common.{◌≤◌, List, length, ap, ◌∙◌, arith, map}
use Rattle.std.proofs.lemmas.List.{take_all}
use Rattle.serde_json.specs.Data.{Data, array}
use Rattle.serde_json.specs.View.{items_of}
use Rattle.shard_calls.specs.declared.ending.TabletRow.{TabletRow}
use Rattle.tablet_text.specs.Json.{tablet_data, tablets_data}
use Rattle.tablet_text.proofs.json.tablets_value.Goals as goal

pub returns : goal.returns
unfolding tablets_data
returns c =
    let over : length c.args.rows.now ≤ c.loop-row.row-index = omega (arith, c.loop-row-test.false) in
    let all = c.loop-row.invariant ∙ ap (λ (t : List TabletRow). map tablet_data t) (take_all c.loop-row.row-index c.args.rows.now over) in
    c.from.ensures ∙ ap (λ (t : List Data). array (items_of t)) all
