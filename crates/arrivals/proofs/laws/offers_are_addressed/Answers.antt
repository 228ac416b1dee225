use Rattle.arrivals.proofs.AddressedLemmas.{offer_addressed, addressed_ack}
use Rattle.arrivals.proofs.laws.offers_are_addressed.Goals as goal

pub returns-clause-offer : goal.returns-clause-offer
returns-clause-offer c = offer_addressed

pub returns-clause-ack : goal.returns-clause-ack
returns-clause-ack c = addressed_ack
