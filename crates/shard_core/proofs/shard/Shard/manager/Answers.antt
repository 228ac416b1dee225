use Rattle.shard_state.specs.State.{data_of}
use Rattle.shard_core.proofs.FoundLemmas.{tablet_seen, group_seen}
use Rattle.shard_core.proofs.shard.Shard.manager.Goals as goal

pub returns-clause-tablet : goal.returns-clause-tablet
returns-clause-tablet c =
    let found = rw c.deref.ensures.value at c.manager_of.ensures.manager in
    tablet_seen (data_of c.self.inside.fields) c.self.inside.history.steps.items c.self.inside.history.notes.items c.args.self.now c.args.alias.now _ c.self.view_is found

pub returns-clause-group : goal.returns-clause-group
returns-clause-group c =
    let found = rw c.deref.ensures.value at c.manager_of.ensures.manager in
    group_seen (data_of c.self.inside.fields) c.self.inside.history.steps.items c.self.inside.history.notes.items c.args.self.now c.args.alias.now _ c.self.view_is found c.self.invariant.leads
