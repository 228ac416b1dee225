use Rattle.shard_script.proofs.FrontLemmas.{front_decides_fault}
use Rattle.shard_script.proofs.law.front_decides_fault.Goals as goal

pub returns : goal.returns
returns c = front_decides_fault
