use Rattle.std.proofs.Common.{◌≡◌, length}
use Rattle.shard_calls.specs.Rescuing.{first_by, stale_in}
use Rattle.refusals.proofs.rescuing.first_stale.Given as goal

abbrev pub invariant-loop-deed : goal.invariant-loop-deed
invariant-loop-deed l = first_by stale_in l.fn.deeds ≡ first_by stale_in l.left

abbrev pub decreases-loop-deed : goal.decreases-loop-deed
decreases-loop-deed l = length l.left
