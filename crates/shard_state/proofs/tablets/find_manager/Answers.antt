use Rattle.shard_state.proofs.PlaceLemmas.{stands}
use Rattle.shard_state.proofs.tablets.find_manager.Goals as goal

pub returns : goal.returns
returns c = rw c.place_at.ensures (stands c.args.managers.now c.args.alias.now)
