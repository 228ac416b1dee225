use Rattle.std.proofs.Common.{◌∙◌}
use Rattle.shard_state.specs.State.{data_of}
use Rattle.arrivals.proofs.RowLemmas.{position_nowhere, row_nowhere}
use Rattle.arrivals.proofs.receivers.is_ready_nowhere.Goals as goal

pub returns-in-WaitFor : goal.returns-in-WaitFor
returns-in-WaitFor c =
    rw c.in-WaitFor.is
    (c.nothing_holds.ensures ∙ position_nowhere (data_of c.args.fields.now) c.args.to.now c.args.term c.in-WaitFor.until c.in-WaitFor.position c.requires.nowhere)

pub returns-in-WaitTold : goal.returns-in-WaitTold
returns-in-WaitTold c = rw c.in-WaitTold.is (row_nowhere (data_of c.args.fields.now) c.args.to.now c.args.term _ c.requires.nowhere)
