use Rattle.gtid_sets.proofs.PositionLemmas.{count-with_gtid}
use Rattle.gtid_sets.proofs.laws.count_with_gtid.Goals as goal

pub returns : goal.returns
returns c = count-with_gtid
