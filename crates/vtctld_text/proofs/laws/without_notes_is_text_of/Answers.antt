use Rattle.vtctld_text.proofs.NoteLemmas.{without_notes_is_text_of}
use Rattle.vtctld_text.proofs.laws.without_notes_is_text_of.Goals as goal

pub returns : goal.returns
returns c = without_notes_is_text_of
