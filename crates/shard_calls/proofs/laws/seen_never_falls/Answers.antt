use Rattle.shard_calls.proofs.MoveLemmas as moves
use Rattle.shard_calls.proofs.laws.seen_never_falls.Goals as goal

pub returns-clause-step : goal.returns-clause-step
returns-clause-step c = moves.seen_never_falls

pub returns-clause-steps : goal.returns-clause-steps
returns-clause-steps c = moves.seen_never_falls_over_steps
