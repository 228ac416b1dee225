use Rattle.causes.specs.Watching.{forced_refuses}
use Rattle.causes.proofs.WatchLemmas.{as_line}
use Rattle.causes.proofs.watching.is_line_of_emergency.Goals as goal

pub returns : goal.returns
returns c = as_line (forced_refuses c.args.group.now c.args.span.now) c.args.state.now c.args.span.now c.args.rest.now c.is_emergency_line.result c.is_emergency_line.ensures
