use Rattle.std.proofs.Common.{ap, ◌∙◌}
use Rattle.gtid_sets.specs.Intervals.{position_of}
use Rattle.gtid_sets.proofs.SetLemmas.{set_union}
use Rattle.gtid_sets.proofs.gtid_set.union.Goals as goal

pub returns : goal.returns
returns c =
    set_union c.args.a.now c.args.b.now c.as_slice-first.result.now c.as_slice-second.result.now c.in_ok-intervals.intervals.items (ap position_of c.as_slice-first.ensures.value ∙ c.a.view_is) (ap position_of c.as_slice-second.ensures.value ∙ c.b.view_is)
    c.in_ok-intervals.ensures.members
