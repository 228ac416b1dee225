use Rattle.std.proofs.Common.{refl, sym, ◌∙◌}
use Rattle.shard_top.specs.declared.player.Move.TheVariants as moves
use Rattle.shard_top.specs.declared.player.Stop.TheVariants as stops
use Rattle.shard_top.proofs.TurnLemmas.{plain_met, plain_open, plain_stop, plain_cut, noted_else, note_cut}
use Rattle.shard_top.proofs.playing.turn_by.Goals as goal

pub make_or_leave-requires-clause-met : goal.make_or_leave-requires-clause-met
make_or_leave-requires-clause-met c =
    plain_met c.args.lines.now c.args.shard.now c.args.player.now c.args.leaving c.in-Makes.event c.in-Makes.next c.requires.met c.requires.closed (sym c.requires.made ∙ c.in-Makes.is)

pub make_or_leave-requires-clause-is_open : goal.make_or_leave-requires-clause-is_open
make_or_leave-requires-clause-is_open c =
    plain_open c.args.lines.now c.args.shard.now c.args.player.now c.args.leaving c.in-Makes.event c.in-Makes.next c.requires.met c.requires.closed (sym c.requires.made ∙ c.in-Makes.is)

pub returns-in-Over-clause-turn : goal.returns-in-Over-clause-turn
returns-in-Over-clause-turn c =
    plain_stop c.args.lines.now c.args.shard.now c.args.player.now c.args.leaving moves.Over stops.Over c.requires.playing c.requires.closed (sym c.requires.made ∙ c.in-Over.is) refl

pub returns-in-Blocked-clause-turn : goal.returns-in-Blocked-clause-turn
returns-in-Blocked-clause-turn c =
    plain_stop c.args.lines.now c.args.shard.now c.args.player.now c.args.leaving (moves.Blocked c.in-Blocked.name) (stops.Blocked c.in-Blocked.name) c.requires.playing c.requires.closed
    (sym c.requires.made ∙ c.in-Blocked.is) refl

pub returns-else-is_full-clause-cut : goal.returns-else-is_full-clause-cut
returns-else-is_full-clause-cut c =
    plain_cut c.make_or_leave.result c.args.lines.now c.args.shard.now c.make_or_leave.new.shard c.args.player.now c.args.leaving c.in-Makes.event c.in-Makes.next c.requires.playing
    c.requires.closed (sym c.requires.made ∙ c.in-Makes.is) c.make_or_leave.ensures.err c.make_or_leave.ensures.cut

pub returns-in-Notes-clause-turn : goal.returns-in-Notes-clause-turn
returns-in-Notes-clause-turn c =
    noted_else c.note_or_stop.result c.args.lines.now c.args.shard.now c.note_or_stop.new.shard c.args.player.now c.args.leaving c.in-Notes.refused c.in-Notes.next c.requires.playing
    c.requires.closed (sym c.requires.made ∙ c.in-Notes.is) c.note_or_stop.ensures.turn

pub returns-in-Notes-clause-cut : goal.returns-in-Notes-clause-cut
returns-in-Notes-clause-cut c =
    note_cut c.note_or_stop.result c.args.lines.now c.args.shard.now c.note_or_stop.new.shard c.args.player.now c.args.leaving c.in-Notes.refused c.in-Notes.next c.requires.playing
    c.requires.closed (sym c.requires.made ∙ c.in-Notes.is) c.note_or_stop.ensures.err
