use Rattle.shard_calls.proofs.MoveLemmas as moves
use Rattle.shard_calls.proofs.laws.rows_are_promised.Goals as goal

pub returns-clause-step : goal.returns-clause-step
returns-clause-step c = moves.keeps_sound

pub returns-clause-steps : goal.returns-clause-steps
returns-clause-steps c = moves.keeps_sound_over_steps

pub returns-clause-always : goal.returns-clause-always
returns-clause-always c = moves.always_sound
