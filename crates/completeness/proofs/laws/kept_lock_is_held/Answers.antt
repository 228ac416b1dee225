use Rattle.completeness.proofs.KeptLemmas as lemmas
use Rattle.completeness.proofs.laws.kept_lock_is_held.Goals as goal

pub returns : goal.returns
returns c = lemmas.kept_lock_is_held
