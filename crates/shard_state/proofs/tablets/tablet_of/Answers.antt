use Rattle.std.proofs.Common.{sym}
use Rattle.shard_state.proofs.PlaceLemmas.{tablet_read, no_tablet}
use Rattle.shard_state.proofs.tablets.tablet_of.Goals as goal

pub returns-in-Some : goal.returns-in-Some
returns-in-Some c =
    tablet_read c.args.managers.now c.args.alias.now c.in-Some.at c.index-managers-at.result c.me.result.now c.in-Some.ensures.1 c.index-managers-at.is c.me.ensures

pub returns-in-None : goal.returns-in-None
returns-in-None c = sym (no_tablet c.args.managers.now c.args.alias.now c.in-None.ensures)
