use Rattle.std.proofs.Common.{◌∙◌, ◌+◌, ◌≤◌, refl, sym, length, arith}
use Rattle.shard_state.specs.State.{data_of}
use Rattle.arrivals.specs.Ways.{is_due_at}
use Rattle.arrivals.proofs.WalkLemmas.{hit, miss, none_left}
use Rattle.arrivals.proofs.due.first_in.Goals as goal

pub returns-then-is_some : goal.returns-then-is_some
returns-then-is_some c =
    hit (is_due_at (data_of c.args.fields.now)) c.args.queue.now c.loop-at.at c.due_number-found.result c.due_number-found.ensures (sym c.is_some.ensures ∙ c.if-is_some.true) ∙ sym c.loop-at.invariant

pub loop-at-preserved : goal.loop-at-preserved
loop-at-preserved c =
    c.loop-at.invariant
    ∙ miss (is_due_at (data_of c.args.fields.now)) c.args.queue.now c.loop-at.at (c.loop-at.at + 1) c.due_number-found.result c.due_number-found.ensures (sym c.is_some.ensures ∙ c.if-is_some.false) refl

pub returns : goal.returns
returns c =
    let all : length c.args.queue.now ≤ c.loop-at.at = omega (arith, c.len-at-end.ensures, c.loop-at-test.false) in
    sym (c.loop-at.invariant ∙ none_left (is_due_at (data_of c.args.fields.now)) c.args.queue.now c.loop-at.at all)
