use Rattle.gtid_sets.proofs.PositionLemmas.{covers-itself, covers-further, covers-both}
use Rattle.gtid_sets.proofs.laws.covers_is_an_order.Goals as goal

pub returns : goal.returns
returns c = record { itself = covers-itself; further = covers-further; both = covers-both }
