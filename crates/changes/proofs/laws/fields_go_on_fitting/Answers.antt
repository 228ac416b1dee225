use Rattle.changes.proofs.SoundLaws.{fits_after}
use Rattle.changes.proofs.laws.fields_go_on_fitting.Goals as goal

pub returns : goal.returns
returns c = fits_after
