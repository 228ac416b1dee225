use Rattle.gtid_sets.proofs.PositionLemmas.{has-union}
use Rattle.gtid_sets.proofs.laws.union_has.Goals as goal

pub returns : goal.returns
returns c = has-union
