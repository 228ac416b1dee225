use Rattle.shard_state.specs.State.{data_of}
use Rattle.shard_core.proofs.DueLemmas.{open_of_actors}
use Rattle.shard_core.proofs.shard.Shard.deliverable.Goals as goal

pub deliverable-requires-clause-open : goal.deliverable-requires-clause-open
deliverable-requires-clause-open c = open_of_actors (data_of c.self.inside.fields) c.self.inside.history.steps.items c.self.invariant.leads
