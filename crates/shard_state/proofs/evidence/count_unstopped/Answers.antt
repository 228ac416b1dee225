use Rattle.std.proofs.Common.{not, ◌&&◌, ◌∙◌}
use Rattle.shard_names.specs.declared.tablet.Tablet.{Tablet}
use Rattle.durability.specs.Policies.{rules_of}
use Rattle.shard_calls.specs.Grounds.{has_stopped}
use Rattle.shard_calls.specs.Outcomes.{sendings}
use Rattle.tablet_manager.specs.Managed.{Managed}
use Rattle.shard_state.proofs.InPlaceLemmas.{count_mapped}
use Rattle.shard_state.proofs.evidence.count_unstopped.Goals as goal

pub returns : goal.returns
returns c =
    c.count_unstopped_at.ensures
    ∙ count_mapped (λ (t : Tablet). (rules_of c.args.fields.now.policy).is_acker c.args.primary.now t && not (has_stopped (sendings c.args.fields.now.post.messages c.args.acts.now) c.args.term t.alias))
    (λ (m : Managed). m.me) c.args.fields.now.managers.items
