use Rattle.std.proofs.Common.{◌≡◌, length}
use Rattle.shard_calls.specs.Causes.{leaves_out}
use Rattle.spans.proofs.promotion.leaves_out.Given as goal

abbrev pub invariant-loop-deed : goal.invariant-loop-deed
invariant-loop-deed l = leaves_out l.fn.alias l.fn.left l.fn.span ≡ leaves_out l.fn.alias l.fn.left l.rest

abbrev pub decreases-loop-deed : goal.decreases-loop-deed
decreases-loop-deed l = length l.rest
