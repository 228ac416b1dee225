use Rattle.history_text.proofs.PieceLemmas.{pieces_are_the_whole}
use Rattle.history_text.proofs.laws.pieces_are_the_whole.Goals as goal

pub returns : goal.returns
returns c = pieces_are_the_whole
