use Rattle.shard_script.proofs.FaultLemmas.{faults_as_spelled}
use Rattle.shard_script.proofs.law.faults_as_spelled.Goals as goal

pub returns : goal.returns
returns c = faults_as_spelled
