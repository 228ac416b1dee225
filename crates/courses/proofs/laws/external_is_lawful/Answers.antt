use Rattle.courses.specs.ExternalLaws.{external_stable, external_sound}
use Rattle.courses.proofs.laws.external_is_lawful.Goals as goal

pub returns : goal.returns
returns c = record { stable = external_stable; sound = external_sound }
