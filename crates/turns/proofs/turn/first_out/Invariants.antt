use Rattle.std.proofs.Common.{◌≡◌, length}
use Rattle.turns.specs.Turns.{first_out}
use Rattle.turns.proofs.turn.first_out.Given as goal

abbrev pub invariant-loop-deed : goal.invariant-loop-deed
invariant-loop-deed l = first_out l.fn.deeds ≡ first_out l.left

abbrev pub decreases-loop-deed : goal.decreases-loop-deed
decreases-loop-deed l = length l.left
