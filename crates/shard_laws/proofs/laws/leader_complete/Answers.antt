use Rattle.shard_laws.proofs.LeaderLemmas as leaders
use Rattle.shard_laws.proofs.laws.leader_complete.Goals as goal

pub returns-clause-moves : goal.returns-clause-moves
returns-clause-moves c = leaders.leader_is_complete

pub returns-clause-runs : goal.returns-clause-runs
returns-clause-runs c = leaders.leader_complete
