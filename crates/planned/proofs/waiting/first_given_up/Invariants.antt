use Rattle.std.proofs.Common.{◌≡◌, length}
use Rattle.shard_core.specs.Kept.{world_of}
use Rattle.planned.specs.Course.{give_ups, first_of}
use Rattle.planned.proofs.waiting.first_given_up.Given as goal

abbrev pub invariant-loop-deed : goal.invariant-loop-deed
invariant-loop-deed l =
    first_of (give_ups (world_of l.fn.shard) l.fn.command l.fn.span) ≡ first_of (give_ups (world_of l.fn.shard) l.fn.command l.rest)

abbrev pub decreases-loop-deed : goal.decreases-loop-deed
decreases-loop-deed l = length l.rest
