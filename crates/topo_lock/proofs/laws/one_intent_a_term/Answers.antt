use Rattle.topo_lock.proofs.MoveLemmas as moves
use Rattle.topo_lock.proofs.laws.one_intent_a_term.Goals as goal

pub returns-clause-step : goal.returns-clause-step
returns-clause-step c = moves.keeps_each_term_once

pub returns-clause-steps : goal.returns-clause-steps
returns-clause-steps c = moves.keeps_each_term_once_over_steps

pub returns-clause-always : goal.returns-clause-always
returns-clause-always c = moves.one_intent_a_term
