use Rattle.topo_lock.proofs.MoveLemmas as moves
use Rattle.topo_lock.proofs.laws.past_terms_are_settled.Goals as goal

pub returns-clause-step : goal.returns-clause-step
returns-clause-step c = moves.past_terms_are_settled

pub returns-clause-steps : goal.returns-clause-steps
returns-clause-steps c = moves.past_terms_are_settled_over_steps
