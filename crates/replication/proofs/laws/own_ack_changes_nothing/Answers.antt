use Rattle.replication.proofs.LawLemmas.{own_changes}
use Rattle.replication.proofs.laws.own_ack_changes_nothing.Goals as goal

pub returns : goal.returns
returns c = own_changes
