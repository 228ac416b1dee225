use Rattle.shard_laws.proofs.TabletLaws as tablets
use Rattle.shard_laws.proofs.network.set_source_again.Goals as goal

pub returns : goal.returns
returns c = tablets.set_source_again
