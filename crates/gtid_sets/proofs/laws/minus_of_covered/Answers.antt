use Rattle.gtid_sets.proofs.PositionLemmas.{minus-covered, covered-from_minus}
use Rattle.gtid_sets.proofs.laws.minus_of_covered.Goals as goal

pub returns : goal.returns
returns c = λ p q. ((λ e. covered-from_minus p q e), (λ h. minus-covered p q h))
