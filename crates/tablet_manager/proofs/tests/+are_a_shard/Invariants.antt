use Rattle.std.proofs.Common.{length}
use Rattle.tablet_manager.proofs.tests.+are_a_shard.Given as goal

abbrev pub decreases-are_a_shard : goal.decreases-are_a_shard
decreases-are_a_shard l = length l.tablets.now
