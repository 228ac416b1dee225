use Rattle.shard_laws.proofs.SafeLemmas as safe
use Rattle.shard_laws.proofs.laws.every_history_is_safe.Goals as goal

pub returns : goal.returns
returns c = safe.every_run_is_safe
