use Rattle.shard_calls.proofs.LawLemmas as lemmas
use Rattle.shard_calls.proofs.laws.refusal_changes_seen_alone.Goals as goal

pub returns : goal.returns
returns c = lemmas.refusal_changes_seen_alone
