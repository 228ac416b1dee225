use Rattle.std.proofs.Common.{◌≡◌, ◌<◌, ◌≤◌, ◌+◌, ◌-◌, ◌∷◌, [], ℕ, List, Err, length, drop, length-drop, ap, sym, subst, arith, ◌∙◌}
use Rattle.gtid_sets.specs.Reading.{item_says, items_say, onto, all_or_first, Gives}
use Rattle.gtid_sets.proofs.ReadingLemmas.{colons, items_next, items_last, read_on, fault_on, err_is, gives_fault}
use Rattle.gtid_sets.proofs.reading.read_items.Goals as goal

pub returns-in_err-push_read : goal.returns-in_err-push_read
returns-in_err-push_read c =
    let lt : c.loop-end.end < length c.loop-end.left.now = omega arith in
    let next = items_next c.args.server.now c.loop-end.at c.loop-end.end c.loop-end.left.now c.read_item.result c.loop-end.invariant.end lt (c.read_item.ensures ∙ ap (item_says c.args.server.now c.loop-end.at) c.text_before.ensures) in
    let rest = items_say c.args.server.now (c.loop-end.at + (c.loop-end.end + 1)) (colons (drop (c.loop-end.end + 1) c.loop-end.left.now)) in
    let e : c.from_residual.result ≡ Err c.in_err-push_read.field-0.0 = err_is c.from_residual.result c.in_err-push_read.field-0.0 c.from_residual.ensures in
    subst (λ r. Gives r c.push_read.new.intervals.items (onto c.args.intervals.now.items (all_or_first (items_say c.args.server.now c.args.start (colons c.args.items.now))))) (sym e)
    (gives_fault (Unit {0}) (Unit {0}) c.in_err-push_read.field-0.0 _ _ _ _
    (λ f h. sym c.loop-end.invariant.reading ∙ ap (λ cs. onto c.loop-end.intervals.items (all_or_first cs)) next ∙ fault_on c.loop-end.intervals.items (c.read_item.result ∷ []) rest f h) c.in_err-push_read.ensures)

pub loop-end-preserved : goal.loop-end-preserved
loop-end-preserved c =
    let lt : c.loop-end.end < length c.loop-end.left.now = omega arith in
    let next = items_next c.args.server.now c.loop-end.at c.loop-end.end c.loop-end.left.now c.read_item.result c.loop-end.invariant.end lt (c.read_item.ensures ∙ ap (item_says c.args.server.now c.loop-end.at) c.text_before.ensures) in
    let rest = items_say c.args.server.now (c.loop-end.at + (c.loop-end.end + 1)) (colons (drop (c.loop-end.end + 1) c.loop-end.left.now)) in
    let size : length c.text_behind-left.result.now ≡ length c.loop-end.left.now - (c.loop-end.end + 1) = ap length c.text_behind-left.ensures ∙ length-drop (c.loop-end.end + 1) c.loop-end.left.now in
    record {
      end = c.length_before_colon-end-in-loop-end.ensures;
      fits = omega (arith, c.loop-end.invariant.fits, size, lt);
      reading =
          ap (λ (t : List ℕ). onto c.push_read.new.intervals.items (all_or_first (items_say c.args.server.now (c.loop-end.at + (c.loop-end.end + 1)) (colons t)))) c.text_behind-left.ensures
          ∙ read_on c.loop-end.intervals.items c.push_read.new.intervals.items (c.read_item.result ∷ []) rest c.in_ok-push_read.ensures
          ∙ ap (λ cs. onto c.loop-end.intervals.items (all_or_first cs)) (sym next) ∙ c.loop-end.invariant.reading;
    }

pub returns : goal.returns
returns c =
    let past : length c.loop-end.left.now ≤ c.loop-end.end = omega arith in
    let last = items_last c.args.server.now c.loop-end.at c.loop-end.end c.loop-end.left.now c.read_item-2.result c.loop-end.invariant.end past c.read_item-2.ensures in
    subst (λ r. Gives c.push_read-2.result c.push_read-2.new.intervals.items r) (ap (λ cs. onto c.loop-end.intervals.items (all_or_first cs)) (sym last) ∙ c.loop-end.invariant.reading) c.push_read-2.ensures
