use Rattle.std.proofs.Common.{◌≡◌, length}
use Rattle.shard_calls.specs.Refusals.{refusal_of_first}
use Rattle.refusals.proofs.table.refusal_of_first.Given as goal

abbrev pub invariant-loop-alias : goal.invariant-loop-alias
invariant-loop-alias l = refusal_of_first l.fn.group l.fn.aliases ≡ refusal_of_first l.fn.group l.left

abbrev pub decreases-loop-alias : goal.decreases-loop-alias
decreases-loop-alias l = length l.left
