use Rattle.durability.proofs.CountingLemmas.{test_is_accepted}
use Rattle.durability.proofs.revocation.counting_is_acceptance.Goals as goal

pub returns : goal.returns
returns c = test_is_accepted
