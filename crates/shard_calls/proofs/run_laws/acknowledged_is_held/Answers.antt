use Rattle.shard_calls.proofs.RunLemmas as runs
use Rattle.shard_calls.proofs.run_laws.acknowledged_is_held.Goals as goal

pub returns-clause-acks : goal.returns-clause-acks
returns-clause-acks c = runs.acks_are_held

pub returns-clause-noted : goal.returns-clause-noted
returns-clause-noted c = runs.noted_is_held
