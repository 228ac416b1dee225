use Rattle.durability.proofs.CountingLemmas.{counting_establishes}
use Rattle.durability.proofs.revocation.counting_is_establishing.Goals as goal

pub returns : goal.returns
returns c = counting_establishes
