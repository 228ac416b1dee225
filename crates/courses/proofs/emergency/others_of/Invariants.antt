use Rattle.std.proofs.Common.{◌≡◌, take}
use Rattle.courses.specs.Emergency.{others_of}
use Rattle.courses.proofs.emergency.others_of.Given as goal

abbrev pub invariant-loop-held : goal.invariant-loop-held
invariant-loop-held l = l.others ≡ others_of l.fn.alias (take l.held-index l.stopped)
