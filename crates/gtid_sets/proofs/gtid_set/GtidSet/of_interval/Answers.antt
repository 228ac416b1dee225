use Rattle.std.proofs.Common.{◌∙◌}
use Rattle.gtid_sets.proofs.ListedLemmas.{has_position_of}
use Rattle.gtid_sets.proofs.gtid_set.GtidSet.of_interval.Goals as goal

pub returns : goal.returns
returns c = λ g. has_position_of c.in_ok-intervals.intervals.items g ∙ c.in_ok-intervals.ensures.members g
