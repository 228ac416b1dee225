use Rattle.std.proofs.Common.{◌≡◌, max, length}
use Rattle.gtid_sets.specs.Winner.{newest_of}
use Rattle.errant.proofs.ahead.newest.Given as goal

abbrev pub invariant-loop-held : goal.invariant-loop-held
invariant-loop-held l = newest_of l.fn.helds ≡ max l.newest (newest_of l.left)

abbrev pub decreases-loop-held : goal.decreases-loop-held
decreases-loop-held l = length l.left
