use Rattle.std.proofs.Common.{◌<◌, ◌∙◌, length, ap, sym, subst, arith, false}
use Rattle.turns.specs.Turns.{Behind, span_of, TriedAll, KeptAll}
use Rattle.turns.proofs.TurnLemmas.{behind_only}
use Rattle.turns.proofs.LookLemmas.{one_given, none_given}
use Rattle.turns.proofs.looking.give_up_one.Goals as goal

pub returns-then-branch-clause-tried : goal.returns-then-branch-clause-tried
returns-then-branch-clause-tried g c =
    let short : c.loop-at.at < length c.loop-at.span.items = omega (arith, ap length c.loop-at.invariant.same) in
    (one_given c.args.number (g.F.Floor.shown c.args.floor.now) (g.F.Floor.shown c.loop-at.floor) (g.F.Floor.shown c.give_up_at.new.floor) c.args.span.now.items c.loop-at.span.items
    c.loop-at.at c.index_mut.result.now c.give_up_at.new.deed c.in_ok-give_up_at.field-0 c.loop-at.invariant.same short c.index_mut.ensures.value c.requires.behind
    c.loop-at.invariant.only c.in_ok-give_up_at.ensures.tried c.if-branch.true).tried

pub returns-then-branch-clause-behind : goal.returns-then-branch-clause-behind
returns-then-branch-clause-behind g c =
    let short : c.loop-at.at < length c.loop-at.span.items = omega (arith, ap length c.loop-at.invariant.same) in
    (one_given c.args.number (g.F.Floor.shown c.args.floor.now) (g.F.Floor.shown c.loop-at.floor) (g.F.Floor.shown c.give_up_at.new.floor) c.args.span.now.items c.loop-at.span.items
    c.loop-at.at c.index_mut.result.now c.give_up_at.new.deed c.in_ok-give_up_at.field-0 c.loop-at.invariant.same short c.index_mut.ensures.value c.requires.behind
    c.loop-at.invariant.only c.in_ok-give_up_at.ensures.tried c.if-branch.true).behind

pub loop-at-preserved : goal.loop-at-preserved
loop-at-preserved g c =
    let stayed = none_given c.args.number (g.F.Floor.shown c.args.floor.now) (g.F.Floor.shown c.loop-at.floor) (g.F.Floor.shown c.give_up_at.new.floor) c.args.span.now.items
    c.loop-at.span.items c.loop-at.at c.index_mut.result.now c.give_up_at.new.deed c.in_ok-give_up_at.field-0 c.loop-at.invariant.same c.index_mut.ensures.value
    c.loop-at.invariant.only c.in_ok-give_up_at.ensures.tried c.if-branch.false
    in record { only = stayed.only; group = c.give_up_at.ensures.group ∙ c.loop-at.invariant.group; same = stayed.same }

pub returns-clause-tried : goal.returns-clause-tried
returns-clause-tried g c =
    subst (λ ds. TriedAll c.args.number (g.F.Floor.shown c.args.floor.now) (g.F.Floor.shown c.loop-at.floor) c.args.span.now.items ds false) (sym c.loop-at.invariant.same)
    (KeptAll c.loop-at.invariant.only)

pub returns-clause-behind : goal.returns-clause-behind
returns-clause-behind g c =
    subst (λ ds. Behind ds (span_of c.args.number (g.F.Floor.shown c.loop-at.floor))) (sym c.loop-at.invariant.same)
    (behind_only c.args.number c.args.span.now.items (g.F.Floor.shown c.args.floor.now) (g.F.Floor.shown c.loop-at.floor) c.loop-at.invariant.only c.requires.behind)
