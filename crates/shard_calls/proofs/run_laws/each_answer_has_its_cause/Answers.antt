use Rattle.shard_calls.proofs.ActLemmas as acts
use Rattle.shard_calls.proofs.RunLemmas as runs
use Rattle.shard_calls.proofs.run_laws.each_answer_has_its_cause.Goals as goal

pub returns-clause-causes : goal.returns-clause-causes
returns-clause-causes c = runs.answers_have_causes

pub returns-clause-acts : goal.returns-clause-acts
returns-clause-acts c = acts.acts_are_steps

pub returns-clause-outcomes : goal.returns-clause-outcomes
returns-clause-outcomes c = runs.outcomes_are_steps
