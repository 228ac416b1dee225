use Rattle.history_text.proofs.ReplyLemmas.{line_tells_reply}
use Rattle.history_text.proofs.laws.line_tells_reply.Goals as goal

pub returns : goal.returns
returns c = line_tells_reply
