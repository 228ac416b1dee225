use Rattle.std.proofs.Common.{◌∙◌}
use Rattle.shard_state.specs.State.{data_of}
use Rattle.arrivals.proofs.RowLemmas.{outcome_at, position_at}
use Rattle.arrivals.proofs.receivers.is_ready.Goals as goal

pub returns-in-WaitTold : goal.returns-in-WaitTold
returns-in-WaitTold c =
    rw c.in-WaitTold.is
    (c.has_outcome.ensures ∙ outcome_at (data_of c.args.fields.now) c.args.to.now c.args.manager.now c.args.term _ c.requires.there c.requires.group)

pub returns-in-WaitFor : goal.returns-in-WaitFor
returns-in-WaitFor c =
    rw c.in-WaitFor.is
    (c.has_position.ensures ∙ position_at (data_of c.args.fields.now) c.args.to.now c.args.manager.now c.args.term c.in-WaitFor.until c.in-WaitFor.position c.requires.there)
