use Rattle.shard_state.specs.State.{data_of}
use Rattle.shard_core.proofs.RunLemmas.{addressed}
use Rattle.shard_core.proofs.shard.look.Goals as goal

pub find-found-requires-clause-addressed : goal.find-found-requires-clause-addressed
find-found-requires-clause-addressed c = addressed (data_of c.args.fields.now) c.requires.leads.sound

pub find-found-requires-clause-group : goal.find-found-requires-clause-group
find-found-requires-clause-group c = c.requires.leads.fits.group
