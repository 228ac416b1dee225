use Rattle.history_text.proofs.ToldLemmas.{line_tells_event}
use Rattle.history_text.proofs.laws.line_tells_event.Goals as goal

pub returns : goal.returns
returns c = line_tells_event
