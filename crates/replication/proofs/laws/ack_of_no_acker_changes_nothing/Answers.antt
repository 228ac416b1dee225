use Rattle.replication.proofs.LawLemmas.{no_acker_changes}
use Rattle.replication.proofs.laws.ack_of_no_acker_changes_nothing.Goals as goal

pub returns : goal.returns
returns c = no_acker_changes
