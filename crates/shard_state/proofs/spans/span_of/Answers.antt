use Rattle.std.proofs.Common.{◌∙◌}
use Rattle.shard_calls.specs.Spans.{deed_of}
use Rattle.shard_state.specs.InPlace.{with_deed}
use Rattle.shard_state.proofs.InPlaceLemmas.{deed_more}
use Rattle.shard_state.proofs.spans.span_of.Goals as goal

pub loop-act-preserved : goal.loop-act-preserved
loop-act-preserved c =
    let short = rw c.as_slice-act-items.ensures at c.loop-act-test.true in
    let here = rw c.as_slice-act-items.ensures at c.act-item.is in
    c.in_ok-push_act.ensures ∙ (λ i. with_deed (c.loop-act.invariant i) (deed_of c.args.post.now.messages c.term_wrote-term.result (here i)))
    ∙ deed_more (deed_of c.args.post.now.messages c.term_wrote-term.result) c.args.state.now.acts c.loop-act.act-index c.act-item.result short
