use Rattle.std.proofs.Common.{◌≡◌, length}
use Rattle.shard_state.specs.State.{data_of}
use Rattle.arrivals.specs.Offers.{first_offered}
use Rattle.arrivals.proofs.offers.first_offered.Given as goal

abbrev pub invariant-loop-manager : goal.invariant-loop-manager
invariant-loop-manager l =
    first_offered (data_of l.fn.fields) l.fn.most l.fn.managers ≡ first_offered (data_of l.fn.fields) l.fn.most l.rest

abbrev pub decreases-loop-manager : goal.decreases-loop-manager
decreases-loop-manager l = length l.rest
