use Rattle.shard_top.proofs.WantLemmas as lemmas
use Rattle.shard_top.proofs.laws.runs_plainly.Goals as goal

pub returns : goal.returns
returns c = lemmas.runs_plainly
