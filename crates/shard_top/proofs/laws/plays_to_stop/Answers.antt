use Rattle.shard_top.proofs.RestLemmas as lemmas
use Rattle.shard_top.proofs.laws.plays_to_stop.Goals as goal

pub returns : goal.returns
returns c = lemmas.plays_to_stop
