use Rattle.std.proofs.Common.{◌≡◌, ◌≤◌, ◌-◌}
use Rattle.arrivals.specs.Feeding.{needed_of, needed_behind}
use Rattle.arrivals.proofs.feeding.feed.Given as goal

abbrev pub invariant-loop-at : goal.invariant-loop-at
invariant-loop-at l = record {
  behind : l.next - 1 ≤ l.at;
  same : needed_of l.source.entries l.row l.replica.entries l.next ≡ needed_behind l.source.entries l.row l.replica.entries l.next l.at;
}
