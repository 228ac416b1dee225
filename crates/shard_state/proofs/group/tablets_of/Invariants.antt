use Rattle.std.proofs.Common.{◌≡◌, take}
use Rattle.shard_state.specs.State.{tablets_of}
use Rattle.shard_state.proofs.group.tablets_of.Given as goal

abbrev pub invariant-loop-manager : goal.invariant-loop-manager
invariant-loop-manager l = l.tablets.items ≡ tablets_of (take l.manager-index l.managers)
