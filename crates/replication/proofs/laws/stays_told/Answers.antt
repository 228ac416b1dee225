use Rattle.replication.proofs.LawLemmas.{more_stays, ack_stays}
use Rattle.replication.proofs.laws.stays_told.Goals as goal

pub returns-clause-more : goal.returns-clause-more
returns-clause-more c = more_stays

pub returns-clause-ack : goal.returns-clause-ack
returns-clause-ack c = ack_stays
