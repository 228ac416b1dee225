use Rattle.std.proofs.Common.{◌≡◌, ◌≤◌, take}
use Rattle.gtid_sets.specs.Reading.{solid_length}
use Rattle.gtid_sets.proofs.reading.solid_length.Given as goal

abbrev pub invariant-loop-i : goal.invariant-loop-i
invariant-loop-i l = (l.length ≡ solid_length (take l.i l.text)) × (l.length ≤ l.i)
