use Rattle.shard_laws.proofs.ShownLemmas as lemmas
use Rattle.shard_laws.proofs.network.answers_are_shown.Goals as goal

pub returns : goal.returns
returns c = lemmas.shown_by_steps
