use Rattle.std.proofs.Common.{refl, sym, ◌∙◌, true, false}
use Rattle.turns.specs.Turns.{Goes, Freed, Left}
use Rattle.turns.proofs.TurnLemmas.{left_next, behind_left, released_now, released_one}
use Rattle.turns.proofs.turn.Player.leave.Goals as goal

pub returns-then-owes_release-clause-acted : goal.returns-then-owes_release-clause-acted
returns-then-owes_release-clause-acted g c =
    Goes (Freed c.args.answer.now (left_next _ _ c.args.self.now.span.items _ _ c.args.self.now.released true c.args.answer.now _ (g.met.P.Plays.stable c.args.self.now.course)
    c.requires.behind c.requires.released (sym c.if-owes_release.true ∙ c.owes_release.ensures) c.requires.demanded c.in_ok-release.ensures.ok))

pub returns-then-owes_release-clause-behind : goal.returns-then-owes_release-clause-behind
returns-then-owes_release-clause-behind g c = behind_left c.args.self.now.number c.args.self.now.span.items _ _ _ (λ full. refl) c.requires.behind c.in_ok-release.ensures.ok

pub returns-clause-acted : goal.returns-clause-acted
returns-clause-acted g c =
    Goes (Left c.args.answer.now (left_next _ _ c.args.self.now.span.items _ _ c.args.self.now.released false c.args.answer.now _ (g.met.P.Plays.stable c.args.self.now.course)
    c.requires.behind c.requires.released (sym c.if-owes_release.false ∙ c.owes_release.ensures) c.requires.demanded c.in_ok-end.ensures.ok))

pub returns-clause-behind : goal.returns-clause-behind
returns-clause-behind g c = behind_left c.args.self.now.number c.args.self.now.span.items _ _ _ (λ full. refl) c.requires.behind c.in_ok-end.ensures.ok

pub returns-then-owes_release-clause-released : goal.returns-then-owes_release-clause-released
returns-then-owes_release-clause-released g c = released_now c.args.self.now.number _ _ c.in_ok-release.ensures.ok

pub returns-clause-released : goal.returns-clause-released
returns-clause-released g c =
    released_one c.args.self.now.number (g.F.Floor.shown c.args.floor.now) c.in_ok-end.ensures.ok.others (g.F.Floor.shown c.end.new.self) _ c.in_ok-end.ensures.ok.foreign
    c.in_ok-end.ensures.ok.split refl ∙ c.requires.released
