use Rattle.gtid_sets.proofs.SameLemmas.{same_intervals}
use Rattle.gtid_sets.proofs.laws.one_list_each.Goals as goal

pub returns : goal.returns
returns c = same_intervals
