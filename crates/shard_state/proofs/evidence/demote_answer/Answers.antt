use Rattle.shard_state.proofs.InPlaceLemmas.{demote_held}
use Rattle.shard_state.proofs.evidence.demote_answer.Goals as goal

pub returns : goal.returns
returns c = demote_held c.args.post.now.messages c.args.acts.now c.args.term c.args.alias.now _ c.first_answer.ensures
