use Rattle.std.proofs.Common.{ap, ◌∙◌}
use Rattle.gtid_sets.specs.Intervals.{position_of}
use Rattle.gtid_sets.proofs.SetLemmas.{set_covers}
use Rattle.gtid_sets.proofs.gtid_set.covers.Goals as goal

pub returns : goal.returns
returns c =
    set_covers c.args.a.now c.args.b.now c.as_slice.result.now c.as_slice-2.result.now c.covers.result (ap position_of c.as_slice.ensures.value ∙ c.a.view_is) (ap position_of c.as_slice-2.ensures.value ∙ c.b.view_is) c.covers.ensures
