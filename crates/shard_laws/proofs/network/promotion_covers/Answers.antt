use Rattle.shard_laws.proofs.TabletLaws as tablets
use Rattle.shard_laws.proofs.network.promotion_covers.Goals as goal

pub returns : goal.returns
returns c = tablets.promotion_covers
