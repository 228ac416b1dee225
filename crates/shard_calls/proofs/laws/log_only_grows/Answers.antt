use Rattle.shard_calls.proofs.MoveLemmas as moves
use Rattle.shard_calls.proofs.laws.log_only_grows.Goals as goal

pub returns-clause-step : goal.returns-clause-step
returns-clause-step c = moves.log_only_grows

pub returns-clause-steps : goal.returns-clause-steps
returns-clause-steps c = moves.log_only_grows_over_steps
