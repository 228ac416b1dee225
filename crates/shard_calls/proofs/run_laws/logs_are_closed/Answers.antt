use Rattle.shard_calls.proofs.RunLemmas as runs
use Rattle.shard_calls.proofs.run_laws.logs_are_closed.Goals as goal

pub returns : goal.returns
returns c = runs.logs_are_closed
