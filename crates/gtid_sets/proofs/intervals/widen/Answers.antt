use Rattle.std.proofs.Common.{◌≡◌, ◌∙◌, ◌+◌, false, set, ap, sym, refl, arith}
use Rattle.gtid_sets.specs.Intervals.{wide, joined, touches}
use Rattle.gtid_sets.proofs.LookLemmas.{looked_some, looked_none, any_default}
use Rattle.gtid_sets.proofs.PutLemmas.{put_in, widen_put, join_put, is_in_order, is_with}
use Rattle.gtid_sets.proofs.intervals.widen.Goals as goal
use Rattle.gtid_sets.proofs.intervals.widen.Goals.{After-intervals-1, After-intervals-in-Some-2-1, After-intervals-in-None-1}

joins : (c : After-intervals-1) → set c.remove.new.self.items c.args.place c.joined.result ≡ put_in c.args.gtid.now c.args.intervals.now.items
joins c =
    let found = looked_some c.deref.result.now c.args.intervals.now.items (c.args.place + 1) c.get.result c.in-Some.next c.deref.ensures.value c.in-Some.ensures c.get.ensures.lookup.0 c.get.ensures.lookup.1 in
    ap (λ x. set c.remove.new.self.items c.args.place x) (c.joined.ensures ∙ ap (λ w. joined w c.in-Some.next) c.widened-wide.ensures)
    ∙ ap (λ xs. set xs c.args.place (joined (wide c.args.gtid.now c.args.held.now) c.in-Some.next)) c.remove.ensures.items
    ∙ join_put c.args.gtid.now c.args.intervals.now.items c.args.place (c.args.place + 1) c.args.held.now c.in-Some.next refl c.requires.place found.0 c.requires.there c.requires.touched found.1 (sym c.touches.ensures ∙ c.if-touches.true)

widens : (c : After-intervals-in-Some-2-1) → set c.args.intervals.now.items c.args.place c.widened-wide.result ≡ put_in c.args.gtid.now c.args.intervals.now.items
widens c =
    let found = looked_some c.deref.result.now c.args.intervals.now.items (c.args.place + 1) c.get.result c.in-Some.next c.deref.ensures.value c.in-Some.ensures c.get.ensures.lookup.0 c.get.ensures.lookup.1 in
    let apart : touches c.args.gtid.now c.in-Some.next ≡ false = sym c.touches.ensures ∙ c.if-touches.false in
    ap (λ x. set c.args.intervals.now.items c.args.place x) c.widened-wide.ensures
    ∙ widen_put c.args.gtid.now c.args.intervals.now.items c.args.place (c.args.place + 1) c.args.held.now refl c.requires.place c.requires.within c.requires.there c.requires.touched
    (λ d l. ap (touches c.args.gtid.now) (any_default c.args.intervals.now.items (c.args.place + 1) d c.in-Some.next l ∙ found.1) ∙ apart)

widens_last : (c : After-intervals-in-None-1) → set c.args.intervals.now.items c.args.place c.widened-wide.result ≡ put_in c.args.gtid.now c.args.intervals.now.items
widens_last c =
    ap (λ x. set c.args.intervals.now.items c.args.place x) c.widened-wide.ensures
    ∙ widen_put c.args.gtid.now c.args.intervals.now.items c.args.place (c.args.place + 1) c.args.held.now refl c.requires.place c.requires.within c.requires.there c.requires.touched
    (λ d l. absurd (omega (arith, looked_none c.deref.result.now c.args.intervals.now.items (c.args.place + 1) c.get.result c.deref.ensures.value c.in-None.ensures c.get.ensures.lookup.0)))

pub returns-in-Some-clause-in_order : goal.returns-in-Some-clause-in_order
returns-in-Some-clause-in_order c = is_in_order c.args.gtid.now c.args.intervals.now.items (set c.remove.new.self.items c.args.place c.joined.result) (joins c) c.requires.in_order

pub returns-in-Some-clause-members : goal.returns-in-Some-clause-members
returns-in-Some-clause-members c = is_with c.args.gtid.now c.args.intervals.now.items (set c.remove.new.self.items c.args.place c.joined.result) (joins c) c.requires.in_order

pub returns-in-Some-2-clause-in_order : goal.returns-in-Some-2-clause-in_order
returns-in-Some-2-clause-in_order c = is_in_order c.args.gtid.now c.args.intervals.now.items (set c.args.intervals.now.items c.args.place c.widened-wide.result) (widens c) c.requires.in_order

pub returns-in-Some-2-clause-members : goal.returns-in-Some-2-clause-members
returns-in-Some-2-clause-members c = is_with c.args.gtid.now c.args.intervals.now.items (set c.args.intervals.now.items c.args.place c.widened-wide.result) (widens c) c.requires.in_order

pub returns-in-None-clause-in_order : goal.returns-in-None-clause-in_order
returns-in-None-clause-in_order c = is_in_order c.args.gtid.now c.args.intervals.now.items (set c.args.intervals.now.items c.args.place c.widened-wide.result) (widens_last c) c.requires.in_order

pub returns-in-None-clause-members : goal.returns-in-None-clause-members
returns-in-None-clause-members c = is_with c.args.gtid.now c.args.intervals.now.items (set c.args.intervals.now.items c.args.place c.widened-wide.result) (widens_last c) c.requires.in_order
