use Rattle.completeness.proofs.EmergencyCompletes.{completes}
use Rattle.completeness.proofs.laws.emergency_completes.Goals as goal

pub returns : goal.returns
returns r config ss run c j o said here free = completes config ss c j o said run here free
