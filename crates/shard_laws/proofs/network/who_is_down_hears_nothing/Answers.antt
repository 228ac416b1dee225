use Rattle.shard_laws.proofs.NetworkLemmas as network
use Rattle.shard_laws.proofs.network.who_is_down_hears_nothing.Goals as goal

pub returns : goal.returns
returns c = network.who_is_down_hears_nothing
