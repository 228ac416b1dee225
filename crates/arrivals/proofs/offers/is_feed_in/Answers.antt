use Rattle.std.proofs.Common.{◌∙◌, ◌+◌, ◌≤◌, refl, sym, length, arith, ℕ, Bool}
use Rattle.shard_calls.specs.Messages.{passes}
use Rattle.shard_calls.specs.World.{numbered}
use Rattle.shard_state.specs.State.{data_of}
use Rattle.arrivals.specs.Ways.{is_feed_due}
use Rattle.arrivals.proofs.WalkLemmas.{any_here, not_here, nothing_left}
use Rattle.arrivals.proofs.offers.is_feed_in.Goals as goal

pub returns-then-is_feed_at : goal.returns-then-is_feed_at
returns-then-is_feed_at c =
    let test : ℕ → Bool = λ k. passes (is_feed_due (data_of c.args.fields.now) c.args.replica.now c.args.next) (numbered c.args.fields.now.post.messages k) in
    sym (c.loop-at.invariant ∙ any_here test c.args.queue.now c.loop-at.at (sym c.is_feed_at.ensures ∙ c.if-is_feed_at.true))

pub loop-at-preserved : goal.loop-at-preserved
loop-at-preserved c =
    let test : ℕ → Bool = λ k. passes (is_feed_due (data_of c.args.fields.now) c.args.replica.now c.args.next) (numbered c.args.fields.now.post.messages k) in
    c.loop-at.invariant ∙ not_here test c.args.queue.now c.loop-at.at (c.loop-at.at + 1) (sym c.is_feed_at.ensures ∙ c.if-is_feed_at.false) refl

pub returns : goal.returns
returns c =
    let test : ℕ → Bool = λ k. passes (is_feed_due (data_of c.args.fields.now) c.args.replica.now c.args.next) (numbered c.args.fields.now.post.messages k) in
    let all : length c.args.queue.now ≤ c.loop-at.at = omega (arith, c.len-at-end.ensures, c.loop-at-test.false) in
    sym (c.loop-at.invariant ∙ nothing_left test c.args.queue.now c.loop-at.at all)
