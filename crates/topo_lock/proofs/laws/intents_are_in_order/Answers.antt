use Rattle.topo_lock.proofs.MoveLemmas as moves
use Rattle.topo_lock.proofs.laws.intents_are_in_order.Goals as goal

pub returns-clause-within_step : goal.returns-clause-within_step
returns-clause-within_step c = moves.keeps_terms_within

pub returns-clause-within_steps : goal.returns-clause-within_steps
returns-clause-within_steps c = moves.keeps_terms_within_over_steps

pub returns-clause-rise_step : goal.returns-clause-rise_step
returns-clause-rise_step c = moves.keeps_terms_rise

pub returns-clause-rise_steps : goal.returns-clause-rise_steps
returns-clause-rise_steps c = moves.keeps_terms_rise_over_steps

pub returns-clause-always : goal.returns-clause-always
returns-clause-always c = moves.intents_are_in_order

pub returns-clause-last : goal.returns-clause-last
returns-clause-last c = moves.last_intent_is_greatest
