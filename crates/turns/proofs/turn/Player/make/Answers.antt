use Rattle.std.proofs.Common.{sym, ◌∙◌, ap, subst, [], ◌∷◌, ◌++◌, refl}
use Rattle.courses.specs.Sound.{IsFounded}
use Rattle.turns.specs.Turns.{Behind, span_of, Goes, Tells, Did}
use Rattle.turns.proofs.TurnLemmas.{did_next, behind_next, behind_only, tells_next, founded, released_only, released_one}
use Rattle.turns.proofs.LookLemmas.{did_of, untold_of}
use Rattle.turns.proofs.turn.Player.make.Goals as goal

pub returns-clause-acted : goal.returns-clause-acted
returns-clause-acted g c =
    Goes (Did (did_next _ _ c.args.self.now.span.items _ _ c.args.want.now c.in-Some.deed (g.met.P.Plays.stable c.args.self.now.course) c.requires.behind c.requires.demanded
    (did_of c.args.self.now.number _ _ c.args.want.now _ c.in-Some.deed c.in_ok-deed.ensures.ok c.in-Some.is)))

pub returns-clause-behind : goal.returns-clause-behind
returns-clause-behind g c =
    subst (λ span. Behind span (span_of c.args.self.now.number (g.F.Floor.shown c.does.new.self)))
    (sym (c.push_reserved.ensures.items ∙ ap (λ items. items ++ c.in-Some.deed ∷ []) c.reserve.ensures.items))
    (behind_next c.args.self.now.number c.args.self.now.span.items _ _ c.args.want.now c.in-Some.deed c.requires.behind
    (did_of c.args.self.now.number _ _ c.args.want.now _ c.in-Some.deed c.in_ok-deed.ensures.ok c.in-Some.is))

pub returns-in_default-clause-acted : goal.returns-in_default-clause-acted
returns-in_default-clause-acted g c =
    let untold = untold_of c.args.self.now.number _ _ c.args.want.now _ c.in_ok-deed.ensures.ok c.in_default.is in
    Tells (tells_next _ _ c.args.self.now.span.items _ _ c.args.want.now (g.met.P.Plays.stable c.args.self.now.course) c.requires.behind c.requires.demanded untold.is untold.only)

pub returns-in_default-clause-behind : goal.returns-in_default-clause-behind
returns-in_default-clause-behind g c =
    subst (λ span. Behind span (span_of c.args.self.now.number (g.F.Floor.shown c.does.new.self))) (sym c.reserve.ensures.items)
    (behind_only c.args.self.now.number c.args.self.now.span.items (g.F.Floor.shown c.args.floor.now) (g.F.Floor.shown c.does.new.self)
    (untold_of c.args.self.now.number _ _ c.args.want.now _ c.in_ok-deed.ensures.ok c.in_default.is).only c.requires.behind)

pub returns-clause-released : goal.returns-clause-released
returns-clause-released g c =
    let did = did_of c.args.self.now.number _ _ c.args.want.now _ c.in-Some.deed c.in_ok-deed.ensures.ok c.in-Some.is in
    released_one c.args.self.now.number (g.F.Floor.shown c.args.floor.now) did.others (g.F.Floor.shown c.does.new.self) _ did.foreign did.split refl ∙ c.requires.released

pub returns-in_default-clause-released : goal.returns-in_default-clause-released
returns-in_default-clause-released g c =
    released_only c.args.self.now.number (g.F.Floor.shown c.args.floor.now) (g.F.Floor.shown c.does.new.self)
    (untold_of c.args.self.now.number _ _ c.args.want.now _ c.in_ok-deed.ensures.ok c.in_default.is).only ∙ c.requires.released

pub does-requires : goal.does-requires
does-requires g c = record {
  founded =
      subst (λ of. IsFounded of (span_of c.args.self.now.number (g.F.Floor.shown c.args.floor.now)) c.args.want.now) (sym c.requires.group)
      (founded (g.P.Plays.group c.args.self.now.course) (g.P.Plays.course c.args.self.now.course) c.args.self.now.span.items _ c.args.want.now
      (g.met.P.Plays.stable c.args.self.now.course) (g.met.P.Plays.sound c.args.self.now.course) c.requires.behind c.requires.demanded);
}
