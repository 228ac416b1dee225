use Rattle.shard_calls.proofs.GroupLemmas as groups
use Rattle.changes.proofs.laws.group_stays.Goals as goal

pub returns : goal.returns
returns c = groups.group_stays
