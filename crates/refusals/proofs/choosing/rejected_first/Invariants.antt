use Rattle.std.proofs.Common.{◌≡◌, take}
use Rattle.std.specs.List.{flat_map}
use Rattle.shard_calls.specs.Choosing.{rejected, reason_of_tablet}
use Rattle.refusals.proofs.choosing.rejected_first.Given as goal

abbrev pub invariant-loop-tablet : goal.invariant-loop-tablet
invariant-loop-tablet l =
    l.reasons ≡ flat_map (λ t. rejected t.alias (reason_of_tablet l.fn.group l.fn.seen l.fn.avoided t)) (take l.tablet-index l.fn.group.tablets)
