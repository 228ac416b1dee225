use Rattle.shard_laws.proofs.LeaderLemmas as leaders
use Rattle.shard_laws.proofs.laws.told_is_voted.Goals as goal

pub returns : goal.returns
returns c = leaders.told_is_voted_for
