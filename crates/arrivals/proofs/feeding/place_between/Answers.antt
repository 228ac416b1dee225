use Rattle.std.proofs.Common.{◌∙◌, sym, arith}
use Rattle.arrivals.proofs.LackLemmas.{skipped}
use Rattle.arrivals.proofs.feeding.place_between.Goals as goal

pub returns-clause-same : goal.returns-clause-same
returns-clause-same c =
    c.loop-entries.invariant.same
    ∙ skipped c.args.source.now.entries c.args.replica.now.entries c.args.row c.args.next c.loop-entries.front c.loop-entries.back c.loop-entries.left c.steps_before.result _
    c.loop-entries.invariant.behind (omega (arith, c.saturating_sub-start.ensures)) c.loop-entries.invariant.few (omega (arith, c.steps_before.ensures.most, c.saturating_sub.ensures))
    (sym c.goes_on.ensures ∙ c.loop-entries-test.false) c.steps_before.ensures.before
