use Rattle.completeness.proofs.DecidedLemmas.{undoes_nothing}
use Rattle.completeness.proofs.emergency.refused_emergency_undoes_nothing.Goals as goal

pub returns : goal.returns
returns c = undoes_nothing
