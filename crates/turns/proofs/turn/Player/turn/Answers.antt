use Rattle.std.proofs.Common.{refl, ◌∙◌}
use Rattle.turns.specs.Turns.{TurnEnded}
use Rattle.turns.proofs.TurnLemmas.{released_only}
use Rattle.turns.proofs.LookLemmas.{turned_all}
use Rattle.turns.proofs.turn.Player.turn.Goals as goal

pub returns-then-self-clause-turned : goal.returns-then-self-clause-turned
returns-then-self-clause-turned g c = TurnEnded refl

pub returns-clause-turned : goal.returns-clause-turned
returns-clause-turned g c =
    turned_all (g.P.Plays.course c.args.self.now.course) c.args.self.now.number (g.F.Floor.shown c.args.floor.now) (g.F.Floor.shown c.look.new.floor)
    (g.F.Floor.shown c.act.new.floor) c.look.new.span.items c.act.result c.in_ok-look.ensures.looks c.act.ensures.acted

pub act-requires-clause-released : goal.act-requires-clause-released
act-requires-clause-released g c =
    released_only c.args.self.now.number (g.F.Floor.shown c.args.floor.now) (g.F.Floor.shown c.look.new.floor) c.in_ok-look.ensures.looks.only ∙ c.requires.released

pub act-requires-clause-group : goal.act-requires-clause-group
act-requires-clause-group g c = c.look.ensures.group ∙ c.requires.group
