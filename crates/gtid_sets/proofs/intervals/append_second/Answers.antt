use Rattle.gtid_sets.proofs.AppendLemmas.{ordered_rises}
use Rattle.gtid_sets.proofs.intervals.append_second.Goals as goal

pub append_all-requires-clause-rise : goal.append_all-requires-clause-rise
append_all-requires-clause-rise c = ordered_rises c.args.more.now c.requires.more
