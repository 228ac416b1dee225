use Rattle.std.proofs.Common.{◌≡◌, take}
use Rattle.std.specs.List.{flat_map}
use Rattle.shard_calls.specs.Choosing.{alias_if}
use Rattle.shard_calls.specs.Refusals.{is_other_than}
use Rattle.recovery_loop.proofs.watch.beside_record.Given as goal

abbrev pub invariant-loop-tablet : goal.invariant-loop-tablet
invariant-loop-tablet l = l.others ≡ flat_map (λ t. alias_if (is_other_than l.fn.recorded t.alias) t.alias) (take l.tablet-index l.fn.group.tablets)
