use Rattle.std.proofs.Common.{ap, ◌∙◌}
use Rattle.gtid_sets.specs.Intervals.{position_of}
use Rattle.gtid_sets.proofs.gtid_set.GtidSetClone.clone.Goals as goal

pub returns : goal.returns
returns c = record { cases = ap position_of (c.in_ok-intervals.ensures.items ∙ c.as_slice.ensures.value) ∙ c.self.view_is }
