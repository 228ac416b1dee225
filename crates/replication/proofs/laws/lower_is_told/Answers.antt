use Rattle.replication.proofs.LawLemmas.{lower_told}
use Rattle.replication.proofs.laws.lower_is_told.Goals as goal

pub returns : goal.returns
returns c = lower_told
