use Rattle.replication.proofs.LawLemmas.{told_elsewhere}
use Rattle.replication.proofs.laws.told_is_elsewhere.Goals as goal

pub returns : goal.returns
returns c = told_elsewhere
