use Rattle.std.proofs.Common.{◌≡◌, None, length}
use Rattle.shard_calls.specs.Choosing.{best_from}
use Rattle.shard_calls.specs.Rescuing.{number_to_rescue}
use Rattle.refusals.proofs.rescuing.fittest.Given as goal

abbrev pub invariant-loop-tablet : goal.invariant-loop-tablet
invariant-loop-tablet l =
    best_from (number_to_rescue l.fn.group l.fn.options l.fn.seen l.fn.deeds l.fn.winner) None l.fn.group.tablets
    ≡ best_from (number_to_rescue l.fn.group l.fn.options l.fn.seen l.fn.deeds l.fn.winner) l.best l.left

abbrev pub decreases-loop-tablet : goal.decreases-loop-tablet
decreases-loop-tablet l = length l.left
