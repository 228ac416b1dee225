use Rattle.shard_laws.proofs.LeaderLemmas as leaders
use Rattle.shard_laws.proofs.laws.emergency_revokes.Goals as goal

pub returns : goal.returns
returns c = leaders.emergency_is_revoked
