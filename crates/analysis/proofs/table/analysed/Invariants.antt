use Rattle.std.proofs.Common.{◌≡◌, map, take}
use Rattle.shard_calls.specs.Analysis.{analysis_of, finding, said_in}
use Rattle.analysis.proofs.table.analysed.Given as goal

abbrev pub invariant-loop-tablet : goal.invariant-loop-tablet
invariant-loop-tablet l =
    l.findings
    ≡ map (λ t. finding t.alias (analysis_of l.fn.group l.fn.record l.fn.drained (said_in l.fn.statuses) t)) (take l.tablet-index l.fn.group.tablets)
