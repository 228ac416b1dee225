use Rattle.std.proofs.Common.{◌≡◌, Err, sym, subst}
use Rattle.gtid_sets.specs.Reading.{reading_from, Reads}
use Rattle.gtid_sets.proofs.ReadingLemmas.{err_is, reads_fault, reads_ok}
use Rattle.gtid_sets.proofs.reading.read_from.Goals as goal

pub returns-in_err-read_text : goal.returns-in_err-read_text
returns-in_err-read_text c =
    let e : c.from_residual.result ≡ Err c.in_err-read_text.field-0.0 = err_is c.from_residual.result c.in_err-read_text.field-0.0 c.from_residual.ensures in
    subst (λ r. Reads r (reading_from c.args.at c.args.text.now)) (sym e)
    (reads_fault (Unit {0}) c.in_err-read_text.field-0.0 c.read_text.new.intervals.items c.new-intervals.result.items c.args.at c.args.text.now c.new-intervals.ensures.items c.in_err-read_text.ensures)

pub returns-in-Ok : goal.returns-in-Ok
returns-in-Ok c = reads_ok c.read_text.new.intervals.items c.new-intervals.result.items c.args.at c.args.text.now c.in-Ok.set c.new-intervals.ensures.items c.in_ok-read_text.ensures c.in-Ok.ensures
