use Rattle.shard_core.specs.Kept.{world_of}
use Rattle.shard_top.proofs.TurnLemmas.{gives_up, still_so}
use Rattle.shard_top.proofs.playing.leave_now.Goals as goal

pub leave-requires : goal.leave-requires
leave-requires c = record { is_open = still_so (world_of c.args.shard.now) c.args.command c.requires.is_open }

pub returns : goal.returns
returns c = λ lines leaving closed h.
    c.leave.ensures lines
    (gives_up lines c.args.shard.now c.args.player.now leaving c.args.command (still_so (world_of c.args.shard.now) c.args.command c.requires.is_open) closed h)
