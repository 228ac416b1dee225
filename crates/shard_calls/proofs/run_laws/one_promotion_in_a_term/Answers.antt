use Rattle.shard_calls.proofs.RunLemmas as runs
use Rattle.shard_calls.proofs.run_laws.one_promotion_in_a_term.Goals as goal

pub returns-clause-once : goal.returns-clause-once
returns-clause-once c = runs.one_promotion

pub returns-clause-intended : goal.returns-clause-intended
returns-clause-intended c = runs.promotes_intended
