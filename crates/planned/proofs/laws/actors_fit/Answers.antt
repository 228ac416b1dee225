use Rattle.shard_core.proofs.PendingLemmas as pending
use Rattle.planned.proofs.laws.actors_fit.Goals as goal

pub returns : goal.returns
returns c = pending.actors_fit_always
