use Rattle.std.proofs.Common.{sym}
use Rattle.gtid_sets.proofs.SetLemmas.{has_of}
use Rattle.gtid_sets.proofs.gtid_set.GtidSet.intervals.Goals as goal

pub returns-clause-members : goal.returns-clause-members
returns-clause-members c = λ g. sym (has_of c.args.self.now c.self.inside.intervals.items c.self.view_is g)
