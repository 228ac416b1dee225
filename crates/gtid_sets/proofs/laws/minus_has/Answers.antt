use Rattle.gtid_sets.proofs.PositionLemmas.{has-minus}
use Rattle.gtid_sets.proofs.laws.minus_has.Goals as goal

pub returns : goal.returns
returns c = has-minus
