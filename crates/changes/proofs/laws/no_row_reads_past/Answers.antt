use Rattle.changes.proofs.PastLaws.{reads_no_past}
use Rattle.changes.proofs.laws.no_row_reads_past.Goals as goal

pub returns : goal.returns
returns c = reads_no_past
