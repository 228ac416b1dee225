use Rattle.gtid_sets.proofs.GtidLemmas.{gtid_eq-Decides}
use Rattle.gtid_sets.proofs.laws.test_is_equality.Goals as goal

pub returns : goal.returns
returns c = λ a b. gtid_eq-Decides a b
