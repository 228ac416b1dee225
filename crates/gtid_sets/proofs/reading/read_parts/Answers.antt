use Rattle.std.proofs.Common.{◌≡◌, ◌<◌, ◌≤◌, ◌+◌, ◌-◌, ℕ, List, Err, true, false, length, drop, length-drop, ap, sym, subst, arith, ◌∙◌}
use Rattle.gtid_sets.specs.Reading.{part_says, parts_say, onto, all_or_first, Gives}
use Rattle.gtid_sets.proofs.ReadingLemmas.{commas, parts_next, parts_last, read_on, fault_on, err_is, gives_fault}
use Rattle.gtid_sets.proofs.reading.read_parts.Goals as goal

pub returns-in_err-read_part : goal.returns-in_err-read_part
returns-in_err-read_part c =
    let lt : c.loop-end.end < length c.loop-end.left.now = omega arith in
    let next = parts_next c.loop-end.behind_comma c.loop-end.at c.loop-end.end c.loop-end.left.now c.text_before.result.now c.loop-end.invariant.end lt c.text_before.ensures in
    let rest = parts_say true (c.loop-end.at + (c.loop-end.end + 1)) (commas (drop (c.loop-end.end + 1) c.loop-end.left.now)) in
    let e : c.from_residual.result ≡ Err c.in_err-read_part.field-0.0 = err_is c.from_residual.result c.in_err-read_part.field-0.0 c.from_residual.ensures in
    subst (λ r. Gives r c.read_part.new.intervals.items (onto c.args.intervals.now.items (all_or_first (parts_say false c.args.start (commas c.args.text.now))))) (sym e)
    (gives_fault (Unit {0}) (Unit {0}) c.in_err-read_part.field-0.0 _ _ _ _
    (λ f h. sym c.loop-end.invariant.reading ∙ ap (λ cs. onto c.loop-end.intervals.items (all_or_first cs)) next ∙ fault_on c.loop-end.intervals.items (part_says c.loop-end.behind_comma true c.loop-end.at c.text_before.result.now) rest f h) c.in_err-read_part.ensures)

pub loop-end-preserved : goal.loop-end-preserved
loop-end-preserved c =
    let lt : c.loop-end.end < length c.loop-end.left.now = omega arith in
    let next = parts_next c.loop-end.behind_comma c.loop-end.at c.loop-end.end c.loop-end.left.now c.text_before.result.now c.loop-end.invariant.end lt c.text_before.ensures in
    let rest = parts_say true (c.loop-end.at + (c.loop-end.end + 1)) (commas (drop (c.loop-end.end + 1) c.loop-end.left.now)) in
    let size : length c.text_behind-left.result.now ≡ length c.loop-end.left.now - (c.loop-end.end + 1) = ap length c.text_behind-left.ensures ∙ length-drop (c.loop-end.end + 1) c.loop-end.left.now in
    record {
      end = c.length_before_comma-end-in-loop-end.ensures;
      fits = omega (arith, c.loop-end.invariant.fits, size, lt);
      reading =
          ap (λ (t : List ℕ). onto c.read_part.new.intervals.items (all_or_first (parts_say true (c.loop-end.at + (c.loop-end.end + 1)) (commas t)))) c.text_behind-left.ensures
          ∙ read_on c.loop-end.intervals.items c.read_part.new.intervals.items (part_says c.loop-end.behind_comma true c.loop-end.at c.text_before.result.now) rest c.in_ok-read_part.ensures
          ∙ ap (λ cs. onto c.loop-end.intervals.items (all_or_first cs)) (sym next) ∙ c.loop-end.invariant.reading;
    }

pub returns : goal.returns
returns c =
    let past : length c.loop-end.left.now ≤ c.loop-end.end = omega arith in
    let last = parts_last c.loop-end.behind_comma c.loop-end.at c.loop-end.end c.loop-end.left.now c.loop-end.invariant.end past in
    subst (λ r. Gives c.read_part-2.result c.read_part-2.new.intervals.items r) (ap (λ cs. onto c.loop-end.intervals.items (all_or_first cs)) (sym last) ∙ c.loop-end.invariant.reading) c.read_part-2.ensures
