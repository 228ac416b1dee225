use Rattle.shard_laws.proofs.NumberLemmas as lemmas
use Rattle.shard_laws.proofs.network.write_numbers_have_no_gaps.Goals as goal

pub returns : goal.returns
returns c = lemmas.write_numbers_have_no_gaps
