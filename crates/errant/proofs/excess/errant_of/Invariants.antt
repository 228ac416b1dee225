use Rattle.std.proofs.Common.{◌≡◌, take}
use Rattle.std.specs.List.{flat_map}
use Rattle.errant.specs.Errant.{excess_of}
use Rattle.errant.proofs.excess.errant_of.Given as goal

abbrev pub invariant-loop-held : goal.invariant-loop-held
invariant-loop-held l = l.errant ≡ flat_map (excess_of l.fn.primary) (take l.held-index l.fn.helds)
