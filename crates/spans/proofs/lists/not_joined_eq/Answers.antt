use Rattle.std.proofs.Common.{◌∙◌, arith, rules}
use Rattle.std.proofs.lemmas.Bool.Decides.{nat_tests}
use Rattle.spans.proofs.SameLemmas.{not_joined_pairs}
use Rattle.spans.proofs.lists.not_joined_eq.Goals as goal

pub returns : goal.returns
returns c = c.pairs_not_joined.ensures ∙ not_joined_pairs c.args.xs.now c.args.ys.now (grind (arith, rules, nat_tests, c.if-xs-ys.false))
