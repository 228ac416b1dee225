use Rattle.std.proofs.Common.{◌+◌, length}
use Rattle.gtid_sets.specs.Intervals.{Ordered}
use Rattle.gtid_sets.proofs.CoverLemmas.{HasAll}
use Rattle.gtid_sets.proofs.intervals.covers.Given as goal

abbrev pub invariant-loop-wanted : goal.invariant-loop-wanted
invariant-loop-wanted l = record {
  left : Ordered l.left;
  right : Ordered l.right;
  whole : HasAll l.left l.right → HasAll l.a l.b;
  part : HasAll l.a l.b → HasAll l.left l.right;
}

abbrev pub decreases-loop-wanted : goal.decreases-loop-wanted
decreases-loop-wanted l = length l.left + length l.right
