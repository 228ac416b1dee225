use Rattle.gtid_sets.proofs.TextLemmas.{on_err_front}
use Rattle.gtid_sets.proofs.set_text.write_intervals.Goals as goal

pub returns-in_err-write_interval-clause-err : goal.returns-in_err-write_interval-clause-err
returns-in_err-write_interval-clause-err c = on_err_front c.from_residual.result c.loop-interval.invariant.front c.in_err-write_interval.ensures.err
