use Rattle.std.proofs.Common.{◌∙◌, arith, rules}
use Rattle.std.proofs.lemmas.Bool.Decides.{nat_tests}
use Rattle.causes.proofs.RowLemmas.{rows_pairs}
use Rattle.causes.proofs.opening.are_rows.Goals as goal

pub returns : goal.returns
returns c = c.pairs_rows.ensures ∙ rows_pairs c.args.seen.now c.args.rows.now c.args.tablets.now (grind (arith, rules, nat_tests, c.if-rows-tablets.false))
