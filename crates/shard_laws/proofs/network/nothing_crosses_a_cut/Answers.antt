use Rattle.shard_laws.proofs.NetworkLemmas as network
use Rattle.shard_laws.proofs.network.nothing_crosses_a_cut.Goals as goal

pub returns : goal.returns
returns c = network.nothing_crosses_a_cut
