use Rattle.std.proofs.Common.{nat_lt, ◌∙◌}
use Rattle.shard_state.proofs.InPlaceLemmas.{last_back}
use Rattle.shard_state.proofs.evidence.last_before.Goals as goal

pub returns : goal.returns
returns c = c.copied.ensures ∙ c.find_before.ensures ∙ last_back (λ i. nat_lt i.term c.args.term) c.args.intents.now
