use Rattle.std.proofs.Common.{◌≡◌, ◌∙◌, ap, sym, true, length, arith}
use Rattle.gtid_sets.specs.Logs.{position_of}
use Rattle.gtid_sets.specs.Position.{Position, count, covers}
use Rattle.arrivals.proofs.LackLemmas.{few_lack, all_lack}
use Rattle.arrivals.proofs.feeding.most_lacking.Goals as goal

pub returns-then-not-covers : goal.returns-then-not-covers
returns-then-not-covers c = omega (arith, all_lack c.args.replica.now.entries c.args.source.now.entries, ap length c.entries-all.ensures)

pub returns : goal.returns
returns c =
    let source = c.args.source.now.entries in
    let held = c.args.replica.now.entries in
    let is : c.covers.result ≡ true = c.if-not-covers.false in
    let all : covers (position_of source) (position_of held) ≡ true =
    sym (ap (λ (p : Position). covers p c.held-2.result.now) c.held.ensures ∙ ap (λ (p : Position). covers (position_of source) p) c.held-2.ensures) ∙ sym c.covers.ensures ∙ is in
    omega (arith, few_lack held source all, ap length c.entries-all.ensures, c.count.ensures, ap count c.held-3.ensures, c.saturating_sub.ensures)
