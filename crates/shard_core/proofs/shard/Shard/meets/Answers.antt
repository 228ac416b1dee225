use Rattle.std.proofs.Common.{sym, ◌∙◌}
use Rattle.shard_state.specs.State.{data_of}
use Rattle.shard_core.proofs.RunLemmas.{addressed, met_is}
use Rattle.shard_core.proofs.shard.Shard.meets.Goals as goal

pub find-found-requires-clause-addressed : goal.find-found-requires-clause-addressed
find-found-requires-clause-addressed c = addressed (data_of c.self.inside.fields) c.self.invariant.leads.sound

pub find-found-requires-clause-group : goal.find-found-requires-clause-group
find-found-requires-clause-group c = c.self.invariant.leads.fits.group
