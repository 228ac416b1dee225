use Rattle.std.proofs.Common.{◌≡◌, take}
use Rattle.std.specs.List.{flat_map}
use Rattle.shard_calls.specs.Causes.{not_joined}
use Rattle.refusals.proofs.leaving.not_joined.Given as goal

abbrev pub invariant-loop-deed : goal.invariant-loop-deed
invariant-loop-deed l = l.left ≡ flat_map not_joined (take l.deed-index l.deeds)
