use Rattle.std.proofs.lemmas.Result.{on_ok_weaker}
use Rattle.vtctld_text.proofs.SummaryLemmas.{counts_are}
use Rattle.vtctld_text.proofs.summary.write_counts.Goals as goal

pub returns : goal.returns
returns c =
    on_ok_weaker c.write_count-4.result
    (λ new. counts_are c.args.steps.now c.args.into.now.items c.write_count.new.into.items c.write_count-2.new.into.items c.write_count-3.new.into.items c.write_count-4.new.into.items
    c.ended.result c.refused.result c.intended-terms.result c.committed.result c.terms_word.result.now c.ended.ensures c.refused.ensures c.intended-terms.ensures c.committed.ensures
    c.terms_word.ensures c.in_ok-write_count.ensures c.in_ok-write_count-2.ensures c.in_ok-write_count-3.ensures new)
    c.write_count-4.ensures
