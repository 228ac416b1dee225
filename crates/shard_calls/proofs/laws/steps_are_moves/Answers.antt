use Rattle.shard_calls.proofs.LawLemmas as lemmas
use Rattle.shard_calls.proofs.laws.steps_are_moves.Goals as goal

pub returns : goal.returns
returns c = lemmas.are_moves
