use Rattle.std.proofs.Common.{refl}
use Rattle.shard_top.proofs.PlayingLemmas.{playing_starts}
use Rattle.shard_top.proofs.playing.play_lines.Goals as goal

pub loop-next-init : goal.loop-next-init
loop-next-init c = (
  playing_starts c.args.lines.now c.args.shard.now c.first_player-player.result c.requires.opening c.requires.unnoted c.first_player-player.ensures,
  refl,
)
