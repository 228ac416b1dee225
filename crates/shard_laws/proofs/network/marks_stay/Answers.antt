use Rattle.shard_laws.proofs.MarkedLemmas as lemmas
use Rattle.shard_laws.proofs.network.marks_stay.Goals as goal

pub returns : goal.returns
returns c = lemmas.marks_stay
