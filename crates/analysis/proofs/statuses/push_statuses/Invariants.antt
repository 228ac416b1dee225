use Rattle.std.proofs.Common.{◌≡◌, ◌++◌, take}
use Rattle.std.specs.List.{flat_map}
use Rattle.analysis.specs.Said.{said_by_call}
use Rattle.analysis.proofs.statuses.push_statuses.Given as goal

abbrev pub invariant-loop-deed : goal.invariant-loop-deed
invariant-loop-deed l = l.into ≡ l.fn.into ++ flat_map said_by_call (take l.deed-index l.deeds)
