use Rattle.std.proofs.Common.{ap, ◌∙◌}
use Rattle.gtid_sets.specs.Intervals.{within}
use Rattle.gtid_sets.proofs.SetLemmas.{has_of}
use Rattle.gtid_sets.proofs.gtid_set.GtidSet.contains.Goals as goal

pub returns : goal.returns
returns c =
    c.has.ensures ∙ ap (λ xs. within xs c.args.gtid) c.as_slice.ensures.value ∙ has_of c.args.self.now c.self.inside.intervals.items c.self.view_is c.args.gtid
