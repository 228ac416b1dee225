use Rattle.std.proofs.Common.{◌≡◌, take}
use Rattle.std.specs.List.{flat_map}
use Rattle.shard_calls.specs.Causes.{line_of}
use Rattle.analysis.proofs.repairs.lines_of.Given as goal

abbrev pub invariant-loop-deed : goal.invariant-loop-deed
invariant-loop-deed l = l.lines ≡ flat_map (line_of l.fn.primary) (take l.deed-index l.fn.deeds)
