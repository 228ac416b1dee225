use Rattle.topo_lock.proofs.MoveLemmas as moves
use Rattle.topo_lock.proofs.laws.mark_stays.Goals as goal

pub returns-clause-step : goal.returns-clause-step
returns-clause-step c = moves.marks_stay

pub returns-clause-steps : goal.returns-clause-steps
returns-clause-steps c = moves.marks_stay_over_steps
