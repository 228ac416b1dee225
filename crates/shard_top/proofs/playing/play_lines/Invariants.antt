use Rattle.std.proofs.Common.{◌≡◌, ◌+◌, ◌-◌, length}
use Rattle.shard_top.specs.Playing.{Playing}
use Rattle.shard_top.proofs.playing.play_lines.Given as goal

abbrev pub invariant-loop-next : goal.invariant-loop-next
invariant-loop-next l = Playing l.lines l.shard l.player l.leaving × (l.shard.config ≡ l.fn.shard.config)

abbrev pub decreases-loop-next : goal.decreases-loop-next
decreases-loop-next l = (1000000 - length l.shard.steps) + (length l.lines - length l.shard.notes)
