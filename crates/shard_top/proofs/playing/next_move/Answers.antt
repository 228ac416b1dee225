use Rattle.planned.proofs.ReachedLemmas.{next_is_met}
use Rattle.shard_top.proofs.TurnLemmas.{few_commands}
use Rattle.shard_top.proofs.playing.next_move.Goals as goal

pub plain_move-requires : goal.plain_move-requires
plain_move-requires c = record { few = few_commands c.args.shard.now c.requires.few; each_line_once = c.requires.each_line_once }

pub returns-clause-met : goal.returns-clause-met
returns-clause-met c = next_is_met c.args.shard.now.config c.args.shard.now.steps c.fields-fields.ensures.begins c.fields-fields.ensures.run
