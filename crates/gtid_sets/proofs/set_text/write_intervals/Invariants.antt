use Rattle.std.proofs.Common.{◌≡◌, ◌++◌, None, drop}
use Rattle.shard_base.specs.Lists.{IsFront}
use Rattle.gtid_sets.specs.SetWriting.{intervals_text}
use Rattle.gtid_sets.proofs.set_text.write_intervals.Given as goal

abbrev pub invariant-loop-interval : goal.invariant-loop-interval
invariant-loop-interval l = record {
  text : l.into.items ++ intervals_text l.previous (drop l.interval-index l.intervals) ≡ l.fn.into.items ++ intervals_text None l.intervals;
  front : IsFront l.fn.into.items l.into.items;
}
