use Rattle.std.proofs.Common.{◌≡◌, ◌≤◌, ◌-◌, length, take}
use Rattle.arrivals.specs.Feeding.{needed_of, needed_behind, how_many_lack}
use Rattle.arrivals.proofs.feeding.place_between.Given as goal

abbrev pub invariant-loop-entries : goal.invariant-loop-entries
invariant-loop-entries l = record {
  behind : l.next - 1 ≤ l.front;
  within : l.front ≤ length l.source.entries;
  end : l.back ≤ length l.source.entries;
  same :
      needed_of l.source.entries l.row l.replica.entries l.next ≡ needed_behind l.source.entries l.row l.replica.entries l.next l.front;
  few : how_many_lack l.replica.entries (take l.back l.source.entries) ≤ l.left;
}

abbrev pub decreases-loop-entries : goal.decreases-loop-entries
decreases-loop-entries l = l.back
