use Rattle.shard_laws.proofs.TabletLaws as tablets
use Rattle.shard_laws.proofs.network.lapsed_is_free.Goals as goal

pub returns : goal.returns
returns c = tablets.lapsed_is_free
