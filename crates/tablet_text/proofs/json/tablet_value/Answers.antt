use Rattle.std.proofs.Common.{ap, ◌∙◌, codes}
use Rattle.serde_json.specs.Data.{object, string}
use Rattle.serde_json.specs.View.{members_view}
use Rattle.tablet_text.specs.Json.{text_data, tablet_data}
use Rattle.tablet_text.proofs.JsonLemmas.{then_put}
use Rattle.tablet_text.proofs.json.tablet_value.Goals as goal

pub returns : goal.returns
unfolding tablet_data
returns c =
    let none = ap members_view c.new-members.ensures.empty in
    let alias = then_put (codes "alias") c.in_ok-put.ensures.ok c.in_ok-alias.ensures none in
    let cell = then_put (codes "cell") c.in_ok-put_text.ensures (ap text_data c.as_slice.ensures) alias in
    let server = then_put (codes "server") c.in_ok-put-2.ensures.ok c.in_ok-server.ensures cell in
    let is_kind = c.in_ok-kind.ensures ∙ ap string c.kind_name.ensures in
    let kind = then_put (codes "type") c.in_ok-put-3.ensures.ok is_kind server in
    c.from.ensures ∙ ap object kind
