use Rattle.shard_laws.proofs.LinkLemmas as lemmas
use Rattle.shard_laws.proofs.network.nothing_lost_comes.Goals as goal

pub returns : goal.returns
returns c = lemmas.nothing_lost_comes
