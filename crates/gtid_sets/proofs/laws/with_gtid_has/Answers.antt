use Rattle.gtid_sets.proofs.PositionLemmas.{has-with_gtid}
use Rattle.gtid_sets.proofs.laws.with_gtid_has.Goals as goal

pub returns : goal.returns
returns c = has-with_gtid
