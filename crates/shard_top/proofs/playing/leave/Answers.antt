use Rattle.std.proofs.Common.{sym, ◌∙◌}
use Rattle.shard_core.specs.Kept.{world_of}
use Rattle.shard_top.proofs.TurnLemmas.{leave_full, leave_met, leave_kept, leave_on}
use Rattle.shard_top.proofs.playing.leave.Goals as goal

pub returns-then-is_full : goal.returns-then-is_full
returns-then-is_full c = λ lines h.
    leave_full lines c.args.shard.now c.args.player.now c.args.command c.requires.is_open (sym c.is_full.ensures ∙ c.if-is_full.true) h

pub make_kept-requires-clause-met : goal.make_kept-requires-clause-met
make_kept-requires-clause-met c =
    leave_met c.args.shard.now.config (world_of c.args.shard.now) c.args.command c.leaves-event.result c.requires.is_open c.leaves-event.ensures

pub make_kept-requires-clause-kept : goal.make_kept-requires-clause-kept
make_kept-requires-clause-kept c = leave_kept (world_of c.args.shard.now) c.args.command c.leaves-event.result c.requires.is_open c.leaves-event.ensures

pub returns : goal.returns
returns c = λ lines h.
    leave_on lines c.args.shard.now c.make_kept.new.shard c.args.player.now c.args.command c.leaves-event.result c.requires.is_open (sym c.is_full.ensures ∙ c.if-is_full.false)
    c.leaves-event.ensures c.make_kept.ensures h
