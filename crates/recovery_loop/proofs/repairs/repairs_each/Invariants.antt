use Rattle.std.proofs.Common.{◌≡◌, [], length}
use Rattle.recovery_loop.specs.Watch.{repairs_all}
use Rattle.recovery_loop.proofs.repairs.repairs_each.Given as goal

abbrev pub invariant-loop-finding : goal.invariant-loop-finding
invariant-loop-finding l =
    repairs_all l.fn.primary l.term l.fn.has l.fn.findings l.fn.due [] l.fn.walk.rest.now
    ≡ repairs_all l.fn.primary l.term l.fn.has l.fn.findings l.left l.rest l.walk.rest.now

abbrev pub decreases-loop-finding : goal.decreases-loop-finding
decreases-loop-finding l = length l.left
