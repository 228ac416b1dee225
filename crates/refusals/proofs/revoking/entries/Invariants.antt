use Rattle.std.proofs.Common.{◌≡◌, take}
use Rattle.std.specs.List.{flat_map}
use Rattle.refusals.specs.Entries.{entry_unreached}
use Rattle.refusals.proofs.revoking.entries.Given as goal

abbrev pub invariant-loop-tablet : goal.invariant-loop-tablet
invariant-loop-tablet l = l.tablets ≡ flat_map (entry_unreached l.fn.ignored l.fn.deeds) (take l.tablet-index l.fn.of)
