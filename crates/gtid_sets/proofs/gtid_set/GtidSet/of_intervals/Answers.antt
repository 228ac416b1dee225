use Rattle.gtid_sets.proofs.SortLemmas.{set_same}
use Rattle.gtid_sets.proofs.gtid_set.GtidSet.of_intervals.Goals as goal

pub returns : goal.returns
returns c = set_same c.in_ok-intervals.intervals.items c.args.intervals.now.items c.in_ok-intervals.ensures.members
