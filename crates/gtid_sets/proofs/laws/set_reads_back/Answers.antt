use Rattle.gtid_sets.proofs.BackLemmas.{set_reads_back}
use Rattle.gtid_sets.proofs.laws.set_reads_back.Goals as goal

pub returns : goal.returns
returns c = set_reads_back
