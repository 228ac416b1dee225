use Rattle.changes.proofs.FewLaws.{few_opening, few_after, few_weaker}
use Rattle.changes.proofs.laws.numbers_stay_few.Goals as goal

pub returns-clause-first : goal.returns-clause-first
returns-clause-first c = few_opening

pub returns-clause-step : goal.returns-clause-step
returns-clause-step c = few_after

pub returns-clause-more : goal.returns-clause-more
returns-clause-more c = few_weaker
