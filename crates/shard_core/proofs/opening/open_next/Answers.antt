use Rattle.shard_core.proofs.OpeningLemmas.{one_of}
use Rattle.shard_core.proofs.opening.open_next.Goals as goal

pub new-requires-clause-among : goal.new-requires-clause-among
new-requires-clause-among c = one_of c.args.tablets.now c.args.at c.in-Some.tablet.now c.requires.within c.in-Some.ensures.lookup.1
