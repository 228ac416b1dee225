use Rattle.std.proofs.Common.{◌≡◌, ◌+◌, eqb, length}
use Rattle.std.specs.List.{position_or_len, slice_split}
use Rattle.gtid_sets.specs.Reading.{items_say, onto, all_or_first}
use Rattle.gtid_sets.proofs.reading.read_items.Given as goal

abbrev pub invariant-loop-end : goal.invariant-loop-end
invariant-loop-end l = record {
  end : l.end ≡ position_or_len (λ b. eqb b 58) l.left;
  fits : l.at + length l.left ≡ l.fn.start + length l.items;
  reading : onto l.intervals.items (all_or_first (items_say l.server l.at (slice_split (λ b. eqb b 58) l.left))) ≡ onto l.fn.intervals.items (all_or_first (items_say l.server l.fn.start (slice_split (λ b. eqb b 58) l.items)));
}

abbrev pub decreases-loop-end : goal.decreases-loop-end
decreases-loop-end l = length l.left
