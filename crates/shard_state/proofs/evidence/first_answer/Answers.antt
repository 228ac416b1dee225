use Rattle.std.proofs.Common.{Option, ap, sym, ◌∙◌}
use Rattle.shard_base.specs.Options.{◌>>=◌}
use Rattle.shard_calls.specs.declared.state.Act.{Act}
use Rattle.shard_state.specs.InPlace.{answered_by}
use Rattle.shard_state.proofs.InPlaceLemmas.{first_found}
use Rattle.shard_state.proofs.evidence.first_answer.Goals as goal

pub returns-in-Some : goal.returns-in-Some
returns-in-Some c =
    let found = rw c.in-Some.is at c.first_asking.ensures in
    c.answered_by.ensures ∙ ap (λ (o : Option Act). o >>= answered_by c.args.post.now.messages) found
    ∙ sym (first_found c.args.post.now.messages c.args.acts.now c.args.term c.args.alias.now c.args.leave)

pub returns-in-None : goal.returns-in-None
returns-in-None c =
    let found = rw c.in-None.is at c.first_asking.ensures in
    ap (λ (o : Option Act). o >>= answered_by c.args.post.now.messages) found
    ∙ sym (first_found c.args.post.now.messages c.args.acts.now c.args.term c.args.alias.now c.args.leave)
