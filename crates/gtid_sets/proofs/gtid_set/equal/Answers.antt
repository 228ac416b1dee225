use Rattle.std.proofs.Common.{◌∙◌, sym}
use Rattle.gtid_sets.proofs.PositionLemmas.{position_eq-Decides}
use Rattle.gtid_sets.proofs.gtid_set.equal.Goals as goal

pub returns : goal.returns
returns c =
    let d = position_eq-Decides c.args.a.now c.args.b.now in
    ((λ h. d.0 (sym c.eq.ensures ∙ h)), (λ e. c.eq.ensures ∙ d.1 e))
