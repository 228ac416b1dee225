use Rattle.std.proofs.Common.{◌≡◌, is_none, take}
use Rattle.std.specs.List.{flat_map}
use Rattle.shard_calls.specs.Choosing.{alias_if}
use Rattle.shard_calls.specs.Choosing.{reason_to_follow}
use Rattle.refusals.proofs.choosing.candidates.Given as goal

abbrev pub invariant-loop-tablet : goal.invariant-loop-tablet
invariant-loop-tablet l =
    l.aliases ≡ flat_map (λ t. alias_if (is_none (reason_to_follow l.fn.group l.fn.allowed l.fn.seen l.fn.old t)) t.alias) (take l.tablet-index l.fn.group.tablets)
