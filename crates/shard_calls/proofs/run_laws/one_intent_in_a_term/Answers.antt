use Rattle.shard_calls.proofs.RunLemmas as runs
use Rattle.shard_calls.proofs.run_laws.one_intent_in_a_term.Goals as goal

pub returns : goal.returns
returns c = runs.one_intent
