use Rattle.std.proofs.Common.{sym}
use Rattle.shard_state.proofs.PlaceLemmas.{manager_read, state_read, no_manager, no_state}
use Rattle.shard_state.proofs.tablets.manager_of.Goals as goal

pub returns-in-Some-clause-manager : goal.returns-in-Some-clause-manager
returns-in-Some-clause-manager c = manager_read c.args.managers.now c.args.alias.now c.in-Some.at c.index-managers-at.result c.in-Some.ensures.1 c.index-managers-at.is

pub returns-in-Some-clause-state : goal.returns-in-Some-clause-state
returns-in-Some-clause-state c = state_read c.args.managers.now c.args.alias.now c.in-Some.at c.index-managers-at.result c.in-Some.ensures.1 c.index-managers-at.is

pub returns-in-None-clause-manager : goal.returns-in-None-clause-manager
returns-in-None-clause-manager c = sym (no_manager c.args.managers.now c.args.alias.now c.in-None.ensures)

pub returns-in-None-clause-state : goal.returns-in-None-clause-state
returns-in-None-clause-state c = no_state c.args.managers.now c.args.alias.now c.in-None.ensures
