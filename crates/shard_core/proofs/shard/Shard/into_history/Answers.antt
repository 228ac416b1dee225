use Rattle.shard_laws.proofs.SafeLemmas.{every_run_is_safe}
use Rattle.shard_core.proofs.shard.Shard.into_history.Goals as goal

pub returns-clause-safe : goal.returns-clause-safe
returns-clause-safe c =
    rw (← c.self.view_is) (every_run_is_safe _ c.self.inside.history.steps.items c.self.invariant.leads.config c.self.invariant.leads.run)
