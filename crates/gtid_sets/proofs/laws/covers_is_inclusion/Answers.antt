use Rattle.gtid_sets.proofs.PositionLemmas.{covers-has, covers-from_has}
use Rattle.gtid_sets.proofs.laws.covers_is_inclusion.Goals as goal

pub returns : goal.returns
returns c = λ p q. ((λ h g m. covers-has p q g h m), (λ each. covers-from_has p q each))
