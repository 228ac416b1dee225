use Rattle.shard_core.specs.Kept.{world_of}
use Rattle.shard_top.specs.Played.{plain_move, IsOfNone}
use Rattle.shard_top.proofs.TurnLemmas.{lacks_turn, lacks_cut, lacks_open}
use Rattle.shard_top.proofs.playing.plain_turn.Goals as goal

pub next_move-requires : goal.next_move-requires
next_move-requires c = record { few = c.requires.playing.few; each_line_once = c.requires.playing.each_line_once }

pub give_up-requires : goal.give_up-requires
give_up-requires c = record {
  is_open =
      λ command is.
      lacks_open (world_of c.args.shard.now) (IsOfNone (plain_move c.args.shard.now.config (world_of c.args.shard.now) c.args.lines.now c.args.player.now)) c.in-Err.wanting.command command
      c.in-Err.ensures.wants is;
}

pub returns-in-Err-clause-turn : goal.returns-in-Err-clause-turn
returns-in-Err-clause-turn c =
    lacks_turn c.give_up.result c.args.lines.now c.args.shard.now c.give_up.new.shard c.args.player.now c.args.leaving c.requires.playing c.requires.closed c.give_up.ensures.turn

pub returns-in-Err-clause-cut : goal.returns-in-Err-clause-cut
returns-in-Err-clause-cut c =
    lacks_cut c.give_up.result c.args.lines.now c.args.shard.now c.give_up.new.shard c.args.player.now c.args.leaving c.in-Err.wanting.command c.requires.playing c.requires.closed
    c.in-Err.ensures.wants c.give_up.ensures.err c.give_up.ensures.cut
