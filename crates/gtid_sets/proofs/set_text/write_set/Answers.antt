use Rattle.std.proofs.Common.{None, ◌∙◌, ◌++◌, ap, sym}
use Rattle.gtid_sets.specs.SetText.{set_text}
use Rattle.gtid_sets.specs.SetWriting.{intervals_text}
use Rattle.gtid_sets.proofs.LookLemmas.{on_ok_get}
use Rattle.gtid_sets.proofs.SetLemmas.{set_of}
use Rattle.gtid_sets.proofs.TextLemmas.{set_text_is}
use Rattle.gtid_sets.proofs.set_text.write_set.Goals as goal

pub returns-clause-ok : goal.returns-clause-ok
returns-clause-ok c =
    on_ok_get c.write_intervals.result _ (sym c.is_err.ensures.value ∙ c.if-is_err.false) c.write_intervals.ensures.ok
    ∙ ap (λ t. c.args.into.now.items ++ t)
    (ap (intervals_text None) c.as_slice.ensures.value ∙ sym (set_text_is c.intervals.result.now.items c.intervals.ensures.in_order) ∙ ap set_text (sym (set_of c.args.set.now c.intervals.result.now.items c.intervals.ensures.members)))
