use Rattle.std.proofs.Common.{Bool, ◌&&◌, ap, sym, ◌∙◌}
use Rattle.shard_state.specs.State.{data_of}
use Rattle.shard_core.specs.Causes.{is_told_at_once}
use Rattle.shard_core.proofs.RunLemmas.{met_there}
use Rattle.shard_core.proofs.shard.is_met_at_once.Goals as goal

pub returns : goal.returns
returns c =
    c.meets_at_once.ensures
    ∙ ap (λ (b : Bool). is_told_at_once c.args.event.now && b)
    (sym (met_there (data_of c.args.fields.now) c.args.history.now.steps.items c.args.event.now c.requires.leads))
