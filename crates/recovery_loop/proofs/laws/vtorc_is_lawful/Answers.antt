use Rattle.recovery_loop.specs.WatchSound.{watch_sound}
use Rattle.recovery_loop.specs.WatchStable.{watch_stable}
use Rattle.recovery_loop.proofs.laws.vtorc_is_lawful.Goals as goal

pub returns : goal.returns
returns c = record { stable = watch_stable; sound = watch_sound }
