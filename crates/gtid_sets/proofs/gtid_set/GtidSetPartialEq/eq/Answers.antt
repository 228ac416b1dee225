use Rattle.gtid_sets.proofs.SetLemmas.{set_eq}
use Rattle.gtid_sets.proofs.gtid_set.GtidSetPartialEq.eq.Goals as goal

pub returns : goal.returns
returns c =
    set_eq c.args.self.now c.args.other.now c.self.inside.intervals.items c.other.inside.intervals.items c.eq.result c.self.view_is c.other.view_is c.self.invariant c.other.invariant c.eq.ensures
