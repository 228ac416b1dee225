use Rattle.gtid_sets.proofs.PositionLemmas.{same_members}
use Rattle.gtid_sets.proofs.laws.same_members_are_one.Goals as goal

pub returns : goal.returns
returns c = same_members
