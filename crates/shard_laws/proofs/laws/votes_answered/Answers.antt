use Rattle.shard_laws.proofs.LeaderLemmas as leaders
use Rattle.shard_laws.proofs.laws.votes_answered.Goals as goal

pub returns : goal.returns
returns c = leaders.votes_are_answered
