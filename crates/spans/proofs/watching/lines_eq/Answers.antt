use Rattle.std.proofs.Common.{◌∙◌, arith, rules}
use Rattle.std.proofs.lemmas.Bool.Decides.{nat_tests}
use Rattle.spans.proofs.SameLemmas.{lines_pairs}
use Rattle.spans.proofs.watching.lines_eq.Goals as goal

pub returns : goal.returns
returns c = c.pairs_lines.ensures ∙ lines_pairs c.args.xs.now c.args.ys.now (grind (arith, rules, nat_tests, c.if-xs-ys.false))
