use Rattle.shard_top.proofs.TurnLemmas.{plain_on, plain_else, maker_is_open}
use Rattle.shard_top.proofs.playing.make_or_leave.Goals as goal

pub returns-in-Ok-clause-turn : goal.returns-in-Ok-clause-turn
returns-in-Ok-clause-turn c = λ lines h is.
    plain_on lines c.args.shard.now c.make.new.shard c.args.player.now c.args.leaving c.args.event c.args.next.now c.requires.closed c.requires.room c.in-Ok.ensures.made h is

pub returns-in-Err-clause-turn : goal.returns-in-Err-clause-turn
returns-in-Err-clause-turn c =
    plain_else c.give_up.result c.args.shard.now c.make.new.shard c.give_up.new.shard c.args.player.now c.args.leaving c.args.event c.args.next.now c.in-Err.ensures.err c.requires.closed
    c.give_up.ensures.turn

pub give_up-requires : goal.give_up-requires
give_up-requires c = record {
  is_open = maker_is_open c.args.shard.now c.make.new.shard c.args.event c.maker_of-maker.result c.in-Err.ensures.err c.requires.is_open c.maker_of-maker.ensures;
}
