use Rattle.planned.proofs.ReachedLemmas as worlds
use Rattle.planned.proofs.laws.waits_end_in_time.Goals as goal

pub returns : goal.returns
returns c = worlds.all_wait_in_time
