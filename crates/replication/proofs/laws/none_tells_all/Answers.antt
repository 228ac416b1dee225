use Rattle.replication.proofs.LawLemmas.{none_tells}
use Rattle.replication.proofs.laws.none_tells_all.Goals as goal

pub returns : goal.returns
returns c = none_tells
