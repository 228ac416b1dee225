use Rattle.changes.proofs.SoundLaws.{sound_opening, sound_after}
use Rattle.changes.proofs.laws.messages_stay_sound.Goals as goal

pub returns-clause-first : goal.returns-clause-first
returns-clause-first c = sound_opening

pub returns-clause-step : goal.returns-clause-step
returns-clause-step c = sound_after
