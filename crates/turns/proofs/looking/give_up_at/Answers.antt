use Rattle.turns.specs.Turns.{Kept}
use Rattle.turns.proofs.LookLemmas.{no_others, no_cause, tried_given}
use Rattle.turns.proofs.looking.give_up_at.Goals as goal

pub returns-in_default-clause-tried : goal.returns-in_default-clause-tried
returns-in_default-clause-tried g c = Kept (no_others c.args.number (g.F.Floor.shown c.args.floor.now))

pub returns-in_default-2-clause-tried : goal.returns-in_default-2-clause-tried
returns-in_default-2-clause-tried g c =
    Kept (no_cause c.args.number (g.F.Floor.shown c.args.floor.now) (g.F.Floor.shown c.give_up.new.self) c.in-Some.message c.in_ok-why.field-0 c.in_ok-why.ensures.ok c.in_default-2.is)

pub returns-clause-tried : goal.returns-clause-tried
returns-clause-tried g c =
    tried_given c.args.number (g.F.Floor.shown c.args.floor.now) (g.F.Floor.shown c.give_up.new.self) c.args.deed.now c.note_in.new.deed c.in-Some.message c.in-Some-2.why
    c.out_message.result c.in_ok-why.field-0 c.out_message.ensures c.in-Some.is c.in_ok-why.ensures.ok c.in-Some-2.is c.note_in.ensures
