use Rattle.recovery_loop.proofs.DecidedLemmas as decided
use Rattle.recovery_loop.proofs.laws.emergency_undoes_nothing.Goals as goal

pub returns : goal.returns
returns c = decided.emergency_undoes_nothing
