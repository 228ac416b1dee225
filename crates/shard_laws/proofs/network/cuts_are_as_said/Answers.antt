use Rattle.shard_laws.proofs.LinkLemmas as lemmas
use Rattle.shard_laws.proofs.network.cuts_are_as_said.Goals as goal

pub returns : goal.returns
returns c = lemmas.cuts_are_as_said
