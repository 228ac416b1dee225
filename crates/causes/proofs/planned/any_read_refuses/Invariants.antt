use Rattle.std.proofs.Common.{◌≡◌, length}
use Rattle.shard_calls.specs.Causes.{any_read, planned_seen_refuses}
use Rattle.causes.proofs.planned.any_read_refuses.Given as goal

abbrev pub invariant-loop-deed : goal.invariant-loop-deed
invariant-loop-deed l =
    any_read (planned_seen_refuses l.fn.group l.fn.options l.fn.refusal l.fn.span) l.fn.span
    ≡ any_read (planned_seen_refuses l.fn.group l.fn.options l.fn.refusal l.fn.span) l.left

abbrev pub decreases-loop-deed : goal.decreases-loop-deed
decreases-loop-deed l = length l.left
