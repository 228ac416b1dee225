use Rattle.std.proofs.Common.{ap, sym, ◌∙◌}
use Rattle.gtid_sets.specs.Position.{count}
use Rattle.gtid_sets.specs.Intervals.{total}
use Rattle.gtid_sets.proofs.ListedLemmas.{count_position_of}
use Rattle.gtid_sets.proofs.gtid_set.GtidSet.count.Goals as goal

pub returns : goal.returns
returns c =
    c.count.ensures ∙ ap total c.as_slice.ensures.value ∙ sym (count_position_of c.self.inside.intervals.items c.self.invariant) ∙ ap count c.self.view_is
