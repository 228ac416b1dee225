use Rattle.topo_lock.proofs.MarkLemmas.{inserted, place_fits}
use Rattle.topo_lock.proofs.mark.place_of.Goals as goal

pub returns-clause-within : goal.returns-clause-within
returns-clause-within c = rw c.count_before.ensures (place_fits c.args.marks.now c.args.alias.now)

pub returns-clause-place : goal.returns-clause-place
returns-clause-place c = rw c.count_before.ensures (inserted c.args.marks.now c.args.alias.now c.requires.new)
