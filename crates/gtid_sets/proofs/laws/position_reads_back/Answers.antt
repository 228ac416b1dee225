use Rattle.gtid_sets.proofs.BackLemmas.{position_reads_back}
use Rattle.gtid_sets.proofs.laws.position_reads_back.Goals as goal

pub returns : goal.returns
returns c = position_reads_back
