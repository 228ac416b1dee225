use Rattle.std.proofs.Common.{◌∙◌, arith, rules}
use Rattle.std.proofs.lemmas.Bool.Decides.{nat_tests}
use Rattle.spans.proofs.SameLemmas.{rejected_pairs}
use Rattle.spans.proofs.lists.rejected_eq.Goals as goal

pub returns : goal.returns
returns c = c.pairs_rejected.ensures ∙ rejected_pairs c.args.xs.now c.args.ys.now (grind (arith, rules, nat_tests, c.if-xs-ys.false))
