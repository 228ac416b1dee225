use Rattle.shard_laws.proofs.LeaderLemmas as leaders
use Rattle.shard_laws.proofs.TightLemmas as tight
use Rattle.shard_laws.proofs.laws.rows_are_moves.Goals as goal

pub returns-clause-row : goal.returns-clause-row
returns-clause-row c = tight.step_moves

pub returns-clause-run : goal.returns-clause-run
returns-clause-run c = leaders.run_is_trace
