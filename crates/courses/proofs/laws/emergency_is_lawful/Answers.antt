use Rattle.courses.specs.EmergencyLaws.{emergency_sound, emergency_stable}
use Rattle.courses.proofs.laws.emergency_is_lawful.Goals as goal

pub returns : goal.returns
returns c = record { stable = emergency_stable; sound = emergency_sound }
