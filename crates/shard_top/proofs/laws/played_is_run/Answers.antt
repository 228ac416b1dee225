use Rattle.shard_top.proofs.LawLemmas as lemmas
use Rattle.shard_top.proofs.laws.played_is_run.Goals as goal

pub returns : goal.returns
returns c = lemmas.played_is_run
