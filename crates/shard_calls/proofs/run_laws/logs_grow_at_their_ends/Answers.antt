use Rattle.shard_calls.proofs.RunLemmas as runs
use Rattle.shard_calls.proofs.run_laws.logs_grow_at_their_ends.Goals as goal

pub returns : goal.returns
returns c = runs.logs_only_grow
