use Rattle.vtctld_text.proofs.NoteLemmas.{each_note_is_printed_once}
use Rattle.vtctld_text.proofs.laws.each_note_is_printed_once.Goals as goal

pub returns : goal.returns
returns c = each_note_is_printed_once
