use Rattle.shard_laws.proofs.SiteLemmas as sites
use Rattle.shard_laws.proofs.laws.sites_are_shown.Goals as goal

pub returns : goal.returns
returns c = sites.sites_are_shown
