use Rattle.shard_calls.proofs.RunLemmas as runs
use Rattle.shard_calls.proofs.run_laws.term_of_topology_never_falls.Goals as goal

pub returns : goal.returns
returns c = runs.term_never_falls
