use Rattle.shard_calls.specs.Causes.{planned_is_refused, plain, from_first, is_taking}
use Rattle.causes.proofs.WatchLemmas.{as_line}
use Rattle.causes.proofs.watching.is_line_of_planned.Goals as goal

pub returns : goal.returns
returns c = as_line (planned_is_refused c.args.group.now plain (from_first is_taking c.args.span.now)) c.args.state.now c.args.span.now c.args.rest.now c.is_planned_line.result c.is_planned_line.ensures
