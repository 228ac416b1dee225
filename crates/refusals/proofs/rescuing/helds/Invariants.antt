use Rattle.std.proofs.Common.{◌≡◌, take}
use Rattle.std.specs.List.{flat_map}
use Rattle.shard_calls.specs.Rescuing.{held_in}
use Rattle.refusals.proofs.rescuing.helds.Given as goal

abbrev pub invariant-loop-deed : goal.invariant-loop-deed
invariant-loop-deed l = l.held ≡ flat_map held_in (take l.deed-index l.deeds)
