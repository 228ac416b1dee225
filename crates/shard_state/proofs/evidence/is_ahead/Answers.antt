use Rattle.std.proofs.Common.{Option, ap, sym, ◌∙◌}
use Rattle.shard_base.specs.Options.{◌>>=◌}
use Rattle.gtid_sets.specs.StoredPosition.{position_eq}
use Rattle.gtid_sets.specs.declared.held.Held.{Held}
use Rattle.tablet_manager.specs.Managed.{Managed}
use Rattle.shard_calls.specs.Grounds.{passes_held}
use Rattle.shard_state.specs.InPlace.{stopped_by}
use Rattle.shard_state.proofs.InPlaceLemmas.{stopped_winner}
use Rattle.shard_state.proofs.evidence.is_ahead.Goals as goal

pub returns-in-Some : goal.returns-in-Some
returns-in-Some c =
    let found = rw c.in-Some.is at c.winner.ensures in
    c.stopped_with.ensures
    ∙ ap (λ (o : Option Managed). passes_held (λ h. position_eq c.args.position.now h.position) (o >>= stopped_by c.args.fields.now.post.messages c.args.acts.now c.args.term)) found
    ∙ ap (λ (o : Option Held). passes_held (λ h. position_eq c.args.position.now h.position) o)
    (sym (stopped_winner c.args.fields.now.post.messages c.args.acts.now c.args.term c.args.fields.now.managers.items))

pub returns-in-None : goal.returns-in-None
returns-in-None c =
    let found = rw c.in-None.is at c.winner.ensures in
    ap (λ (o : Option Managed). passes_held (λ h. position_eq c.args.position.now h.position) (o >>= stopped_by c.args.fields.now.post.messages c.args.acts.now c.args.term)) found
    ∙ ap (λ (o : Option Held). passes_held (λ h. position_eq c.args.position.now h.position) o)
    (sym (stopped_winner c.args.fields.now.post.messages c.args.acts.now c.args.term c.args.fields.now.managers.items))
