use Rattle.std.proofs.Common.{◌≡◌, length}
use Rattle.shard_state.specs.State.{data_of}
use Rattle.arrivals.specs.Receivers.{due_of, earlier}
use Rattle.arrivals.proofs.due.least_of.Given as goal

abbrev pub invariant-loop-actor : goal.invariant-loop-actor
invariant-loop-actor l = earlier l.fn.found (due_of (data_of l.fn.fields) l.fn.actors) ≡ earlier l.first (due_of (data_of l.fn.fields) l.rest)

abbrev pub decreases-loop-actor : goal.decreases-loop-actor
decreases-loop-actor l = length l.rest
