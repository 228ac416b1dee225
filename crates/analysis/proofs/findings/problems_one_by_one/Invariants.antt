use Rattle.std.proofs.Common.{◌≡◌, take}
use Rattle.std.specs.List.{flat_map}
use Rattle.analysis.specs.Kept.{problem_in}
use Rattle.analysis.proofs.findings.problems_one_by_one.Given as goal

abbrev pub invariant-loop-finding : goal.invariant-loop-finding
invariant-loop-finding l = l.kept ≡ flat_map problem_in (take l.finding-index l.findings)
