use Rattle.std.proofs.Common.{◌≡◌, ◌==◌, filter, length}
use Rattle.gtid_sets.specs.Winner.{first_apart}
use Rattle.errant.proofs.ahead.first_apart.Given as goal

abbrev pub invariant-loop-held : goal.invariant-loop-held
invariant-loop-held l =
    first_apart (filter (λ h. h.newest == l.newest) l.fn.helds) ≡ first_apart (filter (λ h. h.newest == l.newest) l.left)

abbrev pub decreases-loop-held : goal.decreases-loop-held
decreases-loop-held l = length l.left
