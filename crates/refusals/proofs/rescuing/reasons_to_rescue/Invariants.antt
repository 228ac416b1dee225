use Rattle.std.proofs.Common.{◌≡◌, take}
use Rattle.std.specs.List.{flat_map}
use Rattle.shard_calls.specs.Choosing.{rejected}
use Rattle.shard_calls.specs.Rescuing.{reason_to_rescue}
use Rattle.refusals.proofs.rescuing.reasons_to_rescue.Given as goal

abbrev pub invariant-loop-tablet : goal.invariant-loop-tablet
invariant-loop-tablet l =
    l.reasons
    ≡ flat_map (λ t. rejected t.alias (reason_to_rescue l.fn.group l.fn.options l.fn.seen l.fn.deeds t)) (take l.tablet-index l.fn.group.tablets)
