use Rattle.std.proofs.Common.{length}
use Rattle.replication.proofs.tests.+are_a_shard.Given as goal

abbrev pub decreases-are_a_shard : goal.decreases-are_a_shard
decreases-are_a_shard l = length l.tablets.now
