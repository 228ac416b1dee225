use Rattle.recovery_loop.proofs.DecidedLemmas as decided
use Rattle.recovery_loop.proofs.laws.command_leaves_for_good.Goals as goal

pub returns : goal.returns
returns c = decided.leaves_for_good
