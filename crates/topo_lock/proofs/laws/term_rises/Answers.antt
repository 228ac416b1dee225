use Rattle.topo_lock.proofs.MoveLemmas as moves
use Rattle.topo_lock.proofs.laws.term_rises.Goals as goal

pub returns-clause-step : goal.returns-clause-step
returns-clause-step c = moves.term_never_falls

pub returns-clause-steps : goal.returns-clause-steps
returns-clause-steps c = moves.term_never_falls_over_steps
