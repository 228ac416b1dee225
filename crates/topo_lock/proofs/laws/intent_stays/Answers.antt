use Rattle.topo_lock.proofs.MoveLemmas as moves
use Rattle.topo_lock.proofs.laws.intent_stays.Goals as goal

pub returns-clause-step : goal.returns-clause-step
returns-clause-step c = moves.intents_stay

pub returns-clause-steps : goal.returns-clause-steps
returns-clause-steps c = moves.intents_stay_over_steps

pub returns-clause-of_term_step : goal.returns-clause-of_term_step
returns-clause-of_term_step c = moves.intent_of_term_stays

pub returns-clause-of_term_steps : goal.returns-clause-of_term_steps
returns-clause-of_term_steps c = moves.intent_of_term_stays_over_steps
