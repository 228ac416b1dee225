use Rattle.shard_calls.proofs.RunLemmas as runs
use Rattle.shard_calls.proofs.run_laws.each_step_is_a_move.Goals as goal

pub returns-clause-tablets : goal.returns-clause-tablets
returns-clause-tablets c = runs.tablets_move

pub returns-clause-topology : goal.returns-clause-topology
returns-clause-topology c = runs.topology_moves
