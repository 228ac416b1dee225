use Rattle.shard_laws.proofs.GroundedLemmas as lemmas
use Rattle.shard_laws.proofs.laws.promotes_on_grounds.Goals as goal

pub returns : goal.returns
returns c = lemmas.promotes_on_grounds
