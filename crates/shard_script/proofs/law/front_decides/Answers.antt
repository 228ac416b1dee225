use Rattle.shard_script.proofs.FrontLemmas.{front_decides}
use Rattle.shard_script.proofs.law.front_decides.Goals as goal

pub returns : goal.returns
returns c = front_decides
