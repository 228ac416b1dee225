use Rattle.std.proofs.Common.{◌≡◌, map, take}
use Rattle.shard_calls.specs.Causes.{row_of}
use Rattle.analysis.proofs.rows.rows_of.Given as goal

abbrev pub invariant-loop-tablet : goal.invariant-loop-tablet
invariant-loop-tablet l = l.rows ≡ map (row_of l.fn.seen) (take l.tablet-index l.fn.group.tablets)
