use Rattle.arrivals.proofs.AddressedLemmas.{addressed_more, addressed_same}
use Rattle.arrivals.proofs.laws.messages_stay_addressed.Goals as goal

pub returns-clause-sent : goal.returns-clause-sent
returns-clause-sent c = addressed_more

pub returns-clause-changed : goal.returns-clause-changed
returns-clause-changed c = addressed_same
