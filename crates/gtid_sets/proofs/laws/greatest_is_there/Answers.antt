use Rattle.gtid_sets.proofs.PositionLemmas.{greatest_is_there}
use Rattle.gtid_sets.proofs.laws.greatest_is_there.Goals as goal

pub returns : goal.returns
returns c = greatest_is_there
