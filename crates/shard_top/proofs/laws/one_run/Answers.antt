use Rattle.shard_top.proofs.LawLemmas as lemmas
use Rattle.shard_top.proofs.laws.one_run.Goals as goal

pub returns : goal.returns
returns c = lemmas.one_run
