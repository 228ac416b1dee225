use Rattle.durability.proofs.CountingLemmas.{counting_revokes}
use Rattle.durability.proofs.revocation.counting_is_revocation.Goals as goal

pub returns : goal.returns
returns c = counting_revokes
