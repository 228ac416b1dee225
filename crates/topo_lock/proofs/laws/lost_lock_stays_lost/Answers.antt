use Rattle.topo_lock.proofs.MoveLemmas as moves
use Rattle.topo_lock.proofs.laws.lost_lock_stays_lost.Goals as goal

pub returns-clause-step : goal.returns-clause-step
returns-clause-step c = moves.lost_lock_stays_lost

pub returns-clause-steps : goal.returns-clause-steps
returns-clause-steps c = moves.lost_lock_stays_lost_over_steps
