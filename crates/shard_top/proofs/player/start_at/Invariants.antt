use Rattle.std.proofs.Common.{◌≡◌, drop}
use Rattle.shard_core.specs.Kept.{world_of}
use Rattle.shard_top.specs.Played.{start_at}
use Rattle.shard_top.proofs.player.start_at.Given as goal

abbrev pub invariant-loop-place : goal.invariant-loop-place
invariant-loop-place l =
    start_at l.fn.shard.config (world_of l.fn.shard) l.fn.noted l.fn.at (drop l.fn.at l.fn.lines)
    ≡ start_at l.fn.shard.config (world_of l.fn.shard) l.fn.noted l.place (drop l.place l.fn.lines)
