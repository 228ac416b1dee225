use Rattle.shard_laws.proofs.LeaderLemmas as leaders
use Rattle.shard_laws.proofs.laws.log_closed.Goals as goal

pub returns-clause-rows : goal.returns-clause-rows
returns-clause-rows c = leaders.rows_are_closed

pub returns-clause-acks : goal.returns-clause-acks
returns-clause-acks c = leaders.acks_say_truth
