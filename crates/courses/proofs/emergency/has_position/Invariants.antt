use Rattle.std.proofs.Common.{◌≡◌, length}
use Rattle.shard_calls.specs.Rescuing.{position_of}
use Rattle.courses.proofs.emergency.has_position.Given as goal

abbrev pub invariant-loop-held : goal.invariant-loop-held
invariant-loop-held l = position_of l.fn.stopped l.fn.alias ≡ position_of l.left l.fn.alias

abbrev pub decreases-loop-held : goal.decreases-loop-held
decreases-loop-held l = length l.left
