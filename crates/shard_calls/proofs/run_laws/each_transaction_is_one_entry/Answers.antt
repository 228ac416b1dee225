use Rattle.shard_calls.proofs.RunLemmas as runs
use Rattle.shard_calls.proofs.run_laws.each_transaction_is_one_entry.Goals as goal

pub returns : goal.returns
returns c = runs.one_entry_each
