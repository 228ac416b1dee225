use Rattle.topo_lock.proofs.MoveLemmas as moves
use Rattle.topo_lock.proofs.laws.marks_are_in_order.Goals as goal

pub returns-clause-rise_step : goal.returns-clause-rise_step
returns-clause-rise_step c = moves.keeps_marks_rise

pub returns-clause-rise_steps : goal.returns-clause-rise_steps
returns-clause-rise_steps c = moves.keeps_marks_rise_over_steps

pub returns-clause-always : goal.returns-clause-always
returns-clause-always c = moves.marks_are_in_order

pub returns-clause-once : goal.returns-clause-once
returns-clause-once c = moves.one_mark_a_tablet
