use Rattle.planned.proofs.QuietLemmas as quiet
use Rattle.planned.proofs.laws.leaving_is_quiet.Goals as goal

pub returns : goal.returns
returns c = quiet.leaving_is_quiet
