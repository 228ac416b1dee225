use Rattle.std.proofs.Common.{◌≡◌, ◌*◌, ◌≤◌, ◌^◌, take}
use Rattle.gtid_sets.specs.Intervals.{total}
use Rattle.gtid_sets.proofs.intervals.count.Given as goal

abbrev pub invariant-loop-interval : goal.invariant-loop-interval
invariant-loop-interval l = record {
  so_far : l.total ≡ total (take l.interval-index l.intervals);
  bounded : l.total ≤ l.interval-index * 2 ^ 64;
}
