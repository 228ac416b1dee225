use Rattle.courses.specs.WritingLaws.{write_stable, write_sound}
use Rattle.courses.proofs.laws.write_is_lawful.Goals as goal

pub returns : goal.returns
returns c = record { stable = write_stable; sound = write_sound }
