use Rattle.shard_calls.proofs.LawLemmas as lemmas
use Rattle.shard_calls.proofs.laws.stale_term_is_refused.Goals as goal

pub returns : goal.returns
returns c = lemmas.stale_term_is_refused
