use Rattle.shard_laws.proofs.GroundExamples as examples
use Rattle.shard_laws.proofs.laws.worked_grounds.Goals as goal

pub returns : goal.returns
returns c = examples.worked_grounds
