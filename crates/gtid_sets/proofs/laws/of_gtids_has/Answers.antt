use Rattle.gtid_sets.proofs.PositionLemmas.{has-of_gtids}
use Rattle.gtid_sets.proofs.laws.of_gtids_has.Goals as goal

pub returns : goal.returns
returns c = has-of_gtids
