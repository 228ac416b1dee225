use Rattle.turns.proofs.LookLemmas.{at_none, at_still, at_came}
use Rattle.turns.proofs.looking.look_at.Goals as goal

pub returns-in_default-clause-looked : goal.returns-in_default-clause-looked
returns-in_default-clause-looked g c = at_none c.args.number (g.F.Floor.shown c.args.floor.now) c.args.deed.now c.out_message.result c.out_message.ensures c.in_default.is

pub returns-in-Some-2-clause-looked : goal.returns-in-Some-2-clause-looked
returns-in-Some-2-clause-looked g c =
    at_came c.args.number (g.F.Floor.shown c.args.floor.now) (g.F.Floor.shown c.receive.new.self) c.args.deed.now c.note_in.new.deed c.in-Some.message c.in-Some-2.outcome
    c.out_message.result c.in_ok-outcome.field-0 c.out_message.ensures c.in-Some.is c.in_ok-outcome.ensures.ok c.in-Some-2.is c.note_in.ensures

pub returns-in_default-2-clause-looked : goal.returns-in_default-2-clause-looked
returns-in_default-2-clause-looked g c =
    at_still c.args.number (g.F.Floor.shown c.args.floor.now) (g.F.Floor.shown c.receive.new.self) c.args.deed.now c.in-Some.message
    c.out_message.result c.in_ok-outcome.field-0 c.out_message.ensures c.in-Some.is c.in_ok-outcome.ensures.ok c.in_default-2.is
