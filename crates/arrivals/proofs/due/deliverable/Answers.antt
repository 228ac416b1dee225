use Rattle.std.proofs.Common.{◌∙◌, ap, ℕ, List, Option}
use Rattle.shard_calls.specs.declared.state.ActorState.{ActorState}
use Rattle.shard_state.specs.State.{data_of}
use Rattle.arrivals.specs.Receivers.{due_for, due_of, earlier}
use Rattle.arrivals.proofs.InboxLemmas.{first_due}
use Rattle.arrivals.proofs.due.deliverable.Goals as goal

pub returns : goal.returns
returns c =
    let d = data_of c.args.fields.now in
    c.least_of.ensures
    ∙ ap (λ (o : Option ℕ). earlier o (due_of d c.as_slice.result.now)) c.first_for-found.ensures
    ∙ ap (λ (actors : List ActorState). earlier (due_for d 0) (due_of d actors)) c.as_slice.ensures.value
    ∙ first_due d c.requires.open
