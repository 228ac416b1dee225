use Rattle.replication.proofs.GreatestLemmas.{keeps_greatest}
use Rattle.replication.proofs.laws.keeps_the_greatest.Goals as goal

pub returns : goal.returns
returns c = keeps_greatest
