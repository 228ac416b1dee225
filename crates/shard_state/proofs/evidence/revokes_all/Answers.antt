use Rattle.std.proofs.Common.{◌∙◌}
use Rattle.shard_names.specs.declared.tablet.Tablet.{Tablet}
use Rattle.durability.specs.Policies.{rules_of}
use Rattle.shard_calls.specs.Grounds.{has_stopped}
use Rattle.shard_calls.specs.Outcomes.{sendings}
use Rattle.tablet_manager.specs.Managed.{Managed}
use Rattle.shard_state.specs.State.{tablets_of}
use Rattle.shard_state.specs.InPlace.{is_out}
use Rattle.shard_state.proofs.InPlaceLemmas.{all_mapped}
use Rattle.shard_state.proofs.evidence.revokes_all.Goals as goal

pub returns : goal.returns
unfolding is_out
returns c =
    c.all_revoked.ensures
    ∙ all_mapped
    (λ (t : Tablet). is_out (rules_of c.args.fields.now.policy) (tablets_of c.args.fields.now.managers.items) (has_stopped (sendings c.args.fields.now.post.messages c.args.acts.now) c.args.term) t)
    (λ (m : Managed). m.me) c.args.fields.now.managers.items
