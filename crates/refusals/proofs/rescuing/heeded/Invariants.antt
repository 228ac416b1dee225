use Rattle.std.proofs.Common.{◌≡◌, not, take}
use Rattle.std.specs.List.{flat_map}
use Rattle.shard_names.specs.Tablets.{is_among}
use Rattle.shard_calls.specs.Choosing.{alias_if}
use Rattle.refusals.proofs.rescuing.heeded.Given as goal

abbrev pub invariant-loop-tablet : goal.invariant-loop-tablet
invariant-loop-tablet l = l.aliases ≡ flat_map (λ t. alias_if (not (is_among l.fn.ignored t.alias)) t.alias) (take l.tablet-index l.fn.group.tablets)
