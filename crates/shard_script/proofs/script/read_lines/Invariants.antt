use Rattle.std.proofs.Common.{◌≡◌, ◌+◌, map, drop}
use Rattle.shard_script.specs.Script.{read_on, read_lines}
use Rattle.shard_script.specs.Faults.{fault_on, fault_in}
use Rattle.shard_script.proofs.script.read_lines.Given as goal

abbrev pub invariant-loop-index : goal.invariant-loop-index
invariant-loop-index l =
    (read_on (l.index + 1) l.script (map (λ b. b.now) (drop l.index l.lines)) ≡ read_lines (map (λ b. b.now) l.lines))
    × (fault_on (l.index + 1) l.script (map (λ b. b.now) (drop l.index l.lines)) ≡ fault_in (map (λ b. b.now) l.lines))
