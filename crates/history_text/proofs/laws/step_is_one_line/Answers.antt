use Rattle.history_text.proofs.StepLemmas.{step_is_one_line}
use Rattle.history_text.proofs.laws.step_is_one_line.Goals as goal

pub returns : goal.returns
returns c = step_is_one_line
