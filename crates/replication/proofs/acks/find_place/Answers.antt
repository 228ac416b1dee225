use Rattle.replication.proofs.AckLemmas.{stands}
use Rattle.replication.proofs.acks.find_place.Goals as goal

pub returns : goal.returns
returns c = rw c.place_at.ensures (stands c.args.aliases.now c.args.alias.now)
