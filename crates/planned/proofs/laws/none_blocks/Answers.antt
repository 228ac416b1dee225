use Rattle.planned.proofs.ReachedLemmas as worlds
use Rattle.planned.proofs.laws.none_blocks.Goals as goal

pub returns : goal.returns
returns c = worlds.none_blocks
