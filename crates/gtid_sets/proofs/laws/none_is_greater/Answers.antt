use Rattle.gtid_sets.proofs.PositionLemmas.{none_is_greater}
use Rattle.gtid_sets.proofs.laws.none_is_greater.Goals as goal

pub returns : goal.returns
returns c = none_is_greater
