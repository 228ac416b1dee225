use Rattle.std.proofs.Common.{ap, sym, ◌∙◌, subst}
use Rattle.turns.specs.declared.turn.Turn.TheVariants as turns
use Rattle.turns.specs.Turns.{first_out, Acted, TriedAll}
use Rattle.turns.proofs.LookLemmas.{acted_by_giving, kept_all, acted_by_waiting, released_tried}
use Rattle.turns.proofs.turn.Player.wait.Goals as goal

pub returns-then-branch-clause-acted : goal.returns-then-branch-clause-acted
returns-then-branch-clause-acted g c =
    acted_by_giving (g.P.Plays.course c.args.self.now.course) c.args.self.now.number (g.F.Floor.shown c.args.floor.now) (g.F.Floor.shown c.give_up_one.new.floor)
    c.args.self.now.span.items c.give_up_one.new.span.items c.requires.awaited
    (subst (λ b. TriedAll c.args.self.now.number (g.F.Floor.shown c.args.floor.now) (g.F.Floor.shown c.give_up_one.new.floor) c.args.self.now.span.items
    c.give_up_one.new.span.items b) c.if-branch.true c.in_ok-give_up_one.ensures.tried)

pub returns-clause-acted : goal.returns-clause-acted
returns-clause-acted g c =
    subst (λ k. Acted (g.P.Plays.course c.args.self.now.course) c.args.self.now.number (g.F.Floor.shown c.args.floor.now) (g.F.Floor.shown c.give_up_one.new.floor)
    c.args.self.now.span.items (turns.Waits k)) (sym (c.first_out.ensures ∙ ap first_out c.as_slice.ensures.value))
    (acted_by_waiting (g.P.Plays.course c.args.self.now.course) c.args.self.now.number (g.F.Floor.shown c.args.floor.now) (g.F.Floor.shown c.give_up_one.new.floor)
    c.args.self.now.span.items c.give_up_one.new.span.items c.requires.awaited
    (kept_all c.args.self.now.number (g.F.Floor.shown c.args.floor.now) (g.F.Floor.shown c.give_up_one.new.floor) c.args.self.now.span.items c.give_up_one.new.span.items
    (subst (λ b. TriedAll c.args.self.now.number (g.F.Floor.shown c.args.floor.now) (g.F.Floor.shown c.give_up_one.new.floor) c.args.self.now.span.items
    c.give_up_one.new.span.items b) c.if-branch.false c.in_ok-give_up_one.ensures.tried)))

pub returns-then-branch-clause-released : goal.returns-then-branch-clause-released
returns-then-branch-clause-released g c =
    released_tried c.args.self.now.number (g.F.Floor.shown c.args.floor.now) (g.F.Floor.shown c.give_up_one.new.floor) c.args.self.now.span.items
    c.give_up_one.new.span.items c.in_ok-give_up_one.field-0 c.in_ok-give_up_one.ensures.tried ∙ c.requires.released

pub returns-clause-released : goal.returns-clause-released
returns-clause-released g c =
    released_tried c.args.self.now.number (g.F.Floor.shown c.args.floor.now) (g.F.Floor.shown c.give_up_one.new.floor) c.args.self.now.span.items
    c.give_up_one.new.span.items c.in_ok-give_up_one.field-0 c.in_ok-give_up_one.ensures.tried ∙ c.requires.released
