use Rattle.std.proofs.Common.{◌≡◌, ◌++◌, map, take}
use Rattle.shard_calls.specs.declared.analysis.Analysis.TheVariants as analyses
use Rattle.shard_calls.specs.Analysis.{finding}
use Rattle.analysis.proofs.table.push_sound.Given as goal

abbrev pub invariant-loop-tablet : goal.invariant-loop-tablet
invariant-loop-tablet l = l.into ≡ l.fn.into ++ map (λ t. finding t.alias analyses.NoProblem) (take l.tablet-index l.tablets)
