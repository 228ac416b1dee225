use Rattle.std.proofs.Common.{◌≡◌, length, max}
use Rattle.arrivals.specs.Offers.{most_sent}
use Rattle.arrivals.proofs.offers.most_sent.Given as goal

abbrev pub invariant-loop-manager : goal.invariant-loop-manager
invariant-loop-manager l = most_sent l.fn.managers ≡ max l.most (most_sent l.rest)

abbrev pub decreases-loop-manager : goal.decreases-loop-manager
decreases-loop-manager l = length l.rest
