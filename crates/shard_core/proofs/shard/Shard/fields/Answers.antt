use Rattle.shard_state.specs.State.{data_of}
use Rattle.shard_core.proofs.RunLemmas.{whole}
use Rattle.shard_core.proofs.shard.Shard.fields.Goals as goal

pub returns-clause-whole : goal.returns-clause-whole
returns-clause-whole c = whole (data_of c.self.inside.fields) c.self.inside.history.steps.items c.self.invariant.leads
