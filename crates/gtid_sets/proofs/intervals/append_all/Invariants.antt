use Rattle.std.proofs.Common.{◌≡◌, ◌||◌, length}
use Rattle.gtid_sets.specs.declared.gtid.Gtid.{Gtid}
use Rattle.gtid_sets.specs.Intervals.{Ordered, Behind, StartsRise, within}
use Rattle.gtid_sets.proofs.intervals.append_all.Given as goal

abbrev pub invariant-loop-next : goal.invariant-loop-next
invariant-loop-next l = record {
  in_order : Ordered l.intervals.items;
  rise : StartsRise l.left;
  behind : Behind l.intervals.items l.left;
  members : (g : Gtid) → (within l.intervals.items g || within l.left g) ≡ (within l.fn.intervals.items g || within l.more g);
}

abbrev pub decreases-loop-next : goal.decreases-loop-next
decreases-loop-next l = length l.left
