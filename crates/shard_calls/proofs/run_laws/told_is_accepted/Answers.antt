use Rattle.shard_calls.proofs.AcceptLemmas as accepts
use Rattle.shard_calls.proofs.run_laws.told_is_accepted.Goals as goal

pub returns-clause-told : goal.returns-clause-told
returns-clause-told c = accepts.told_is_accepted

pub returns-clause-not_told : goal.returns-clause-not_told
returns-clause-not_told c = accepts.not_told_is_late
