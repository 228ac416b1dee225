use Rattle.planned.proofs.Examples as examples
use Rattle.planned.proofs.ReachedLemmas as worlds
use Rattle.planned.proofs.WatchExamples as watches
use Rattle.planned.proofs.laws.next_is_met.Goals as goal

pub returns-clause-any : goal.returns-clause-any
returns-clause-any c = worlds.may_is_met

pub returns-clause-first : goal.returns-clause-first
returns-clause-first c = worlds.next_is_met
