use Rattle.std.proofs.Common.{ℕ, ap, ◌∙◌, codes}
use Rattle.serde_json.specs.Data.{object, number, unsigned}
use Rattle.serde_json.specs.View.{members_view}
use Rattle.tablet_text.specs.Json.{text_data, shard_data}
use Rattle.tablet_text.proofs.JsonLemmas.{then_put}
use Rattle.tablet_text.proofs.json.shard_value.Goals as goal

pub returns : goal.returns
unfolding shard_data
returns c =
    let none = ap members_view c.new-members.ensures.empty in
    let keyspace = then_put (codes "keyspace") c.in_ok-put_text.ensures (ap text_data c.as_slice.ensures) none in
    let alias = then_put (codes "primary_alias") c.in_ok-put.ensures.ok c.in_ok-alias.ensures keyspace in
    let time = then_put (codes "primary_term_start_time") c.in_ok-put-2.ensures.ok c.in_ok-time.ensures alias in
    let shard = then_put (codes "shard") c.in_ok-put_text-2.ensures (ap text_data c.as_slice-2.ensures) time in
    let is_term = c.from-term.ensures ∙ ap (λ (n : ℕ). number (unsigned n)) c.recorded_term.ensures in
    let term = then_put (codes "term") c.in_ok-put-3.ensures.ok is_term shard in
    c.from.ensures ∙ ap object term
