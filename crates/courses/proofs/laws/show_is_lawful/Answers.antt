use Rattle.courses.specs.WritingLaws.{show_stable, show_sound}
use Rattle.courses.proofs.laws.show_is_lawful.Goals as goal

pub returns : goal.returns
returns c = record { stable = show_stable; sound = show_sound }
