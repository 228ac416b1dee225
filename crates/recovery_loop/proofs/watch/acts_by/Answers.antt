use Rattle.std.proofs.Common.{◌++◌}
use Rattle.recovery_loop.proofs.WalkLemmas.{acts_found}
use Rattle.recovery_loop.proofs.watch.acts_by.Goals as goal

pub returns : goal.returns
returns c =
    acts_found c.args.group.now c.args.seen.now (c.args.those.now ++ c.args.primary.now) c.in_ok-said.said c.as_slice.result.now c.as_slice-2.result.now
    c.as_slice-drained.result.now c.in_ok-findings.findings c.as_slice-3.result.now c.acts_on.result c.acts_on.new.walk.rest.now
    c.args.walk.now.rest.now c.in_ok-said.ensures c.as_slice.ensures c.as_slice-2.ensures c.as_slice-drained.ensures c.in_ok-findings.ensures
    c.as_slice-3.ensures c.acts_on.ensures
