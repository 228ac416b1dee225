use Rattle.std.proofs.Common.{◌≡◌, None, length}
use Rattle.shard_calls.specs.Choosing.{best_from, number_among}
use Rattle.refusals.proofs.choosing.best_among.Given as goal

abbrev pub invariant-loop-tablet : goal.invariant-loop-tablet
invariant-loop-tablet l =
    best_from (number_among l.fn.group l.fn.allowed l.fn.seen l.fn.old l.fn.deeds) None l.fn.group.tablets
    ≡ best_from (number_among l.fn.group l.fn.allowed l.fn.seen l.fn.old l.fn.deeds) l.best l.left

abbrev pub decreases-loop-tablet : goal.decreases-loop-tablet
decreases-loop-tablet l = length l.left
