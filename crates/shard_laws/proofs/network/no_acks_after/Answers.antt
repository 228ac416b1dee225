use Rattle.shard_laws.proofs.TabletLaws as tablets
use Rattle.shard_laws.proofs.network.no_acks_after.Goals as goal

pub returns : goal.returns
returns c = tablets.no_acks_after
