use Rattle.std.proofs.Common.{ap, ◌∙◌}
use Rattle.gtid_sets.specs.Intervals.{position_of}
use Rattle.gtid_sets.proofs.SetLemmas.{set_of_none}
use Rattle.gtid_sets.proofs.gtid_set.GtidSet.empty.Goals as goal

pub returns : goal.returns
returns c = ap position_of c.new.ensures.items ∙ set_of_none
