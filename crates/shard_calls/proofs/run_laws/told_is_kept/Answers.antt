use Rattle.shard_calls.proofs.RunLemmas as runs
use Rattle.shard_calls.proofs.run_laws.told_is_kept.Goals as goal

pub returns : goal.returns
returns c = runs.keeps_told
