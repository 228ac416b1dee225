use Rattle.shard_calls.proofs.RunLemmas as runs
use Rattle.shard_calls.proofs.run_laws.tablets_stay_sound.Goals as goal

pub returns : goal.returns
returns c = runs.tablets_are_sound
