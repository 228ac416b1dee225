use Rattle.shard_script.proofs.SpellLemmas.{reads_as_spelled}
use Rattle.shard_script.proofs.law.reads_as_spelled.Goals as goal

pub returns : goal.returns
returns c = reads_as_spelled
