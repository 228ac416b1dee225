use Rattle.std.proofs.Common.{ℕ, ap, ◌∙◌}
use Rattle.std.specs.List.{find}
use Rattle.shard_state.specs.InPlace.{leads_all, stopped_by}
use Rattle.shard_state.proofs.evidence.winner.Goals as goal

pub returns : goal.returns
returns c =
    let newest = rw c.deref.ensures.value at c.greatest_newest-newest.ensures in
    c.first_leading.ensures
    ∙ ap
    (λ (n : ℕ). find
    (λ m. leads_all (stopped_by c.args.fields.now.post.messages c.args.acts.now c.args.term) c.args.fields.now.managers.items n (stopped_by c.args.fields.now.post.messages c.args.acts.now c.args.term m))
    c.args.fields.now.managers.items) newest
