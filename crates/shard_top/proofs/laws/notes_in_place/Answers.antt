use Rattle.shard_top.proofs.LawLemmas as lemmas
use Rattle.shard_top.proofs.laws.notes_in_place.Goals as goal

pub returns : goal.returns
returns c = lemmas.notes_in_place
