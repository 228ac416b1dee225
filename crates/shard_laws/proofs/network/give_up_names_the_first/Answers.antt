use Rattle.shard_laws.proofs.GiveUpLemmas as lemmas
use Rattle.shard_laws.proofs.network.give_up_names_the_first.Goals as goal

pub returns : goal.returns
returns c = lemmas.give_up_names_the_first
