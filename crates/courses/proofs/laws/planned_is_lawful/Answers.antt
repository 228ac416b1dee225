use Rattle.courses.specs.PlannedSound.{planned_sound}
use Rattle.courses.specs.PlannedStable.{planned_stable}
use Rattle.courses.proofs.laws.planned_is_lawful.Goals as goal

pub returns : goal.returns
returns c = record { stable = planned_stable; sound = planned_sound }
