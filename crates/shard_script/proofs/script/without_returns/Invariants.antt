use Rattle.std.proofs.Common.{◌≡◌, ◌++◌, length}
use Rattle.shard_script.specs.Script.{without_returns}
use Rattle.shard_script.proofs.script.without_returns.Given as goal

abbrev pub invariant-loop-byte : goal.invariant-loop-byte
invariant-loop-byte l = l.plain.items ++ without_returns l.left ≡ without_returns l.fn.text

abbrev pub decreases-loop-byte : goal.decreases-loop-byte
decreases-loop-byte l = length l.left
