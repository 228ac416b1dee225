use Rattle.std.proofs.Common.{◌≡◌, ◌+◌, eqb, false, length}
use Rattle.std.specs.List.{position_or_len, slice_split}
use Rattle.gtid_sets.specs.Reading.{parts_say, onto, all_or_first}
use Rattle.gtid_sets.proofs.reading.read_parts.Given as goal

abbrev pub invariant-loop-end : goal.invariant-loop-end
invariant-loop-end l = record {
  end : l.end ≡ position_or_len (λ b. eqb b 44) l.left;
  fits : l.at + length l.left ≡ l.fn.start + length l.text;
  reading : onto l.intervals.items (all_or_first (parts_say l.behind_comma l.at (slice_split (λ b. eqb b 44) l.left))) ≡ onto l.fn.intervals.items (all_or_first (parts_say false l.fn.start (slice_split (λ b. eqb b 44) l.text)));
}

abbrev pub decreases-loop-end : goal.decreases-loop-end
decreases-loop-end l = length l.left
