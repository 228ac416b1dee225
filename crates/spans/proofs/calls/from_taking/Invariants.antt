use Rattle.std.proofs.Common.{◌≡◌, length}
use Rattle.shard_calls.specs.Causes.{from_first, is_taking}
use Rattle.spans.proofs.calls.from_taking.Given as goal

abbrev pub invariant-loop-deed : goal.invariant-loop-deed
invariant-loop-deed l = from_first is_taking l.fn.span ≡ from_first is_taking l.left

abbrev pub decreases-loop-deed : goal.decreases-loop-deed
decreases-loop-deed l = length l.left
