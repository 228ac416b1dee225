use Rattle.std.proofs.Common.{◌∙◌, arith, rules}
use Rattle.std.proofs.lemmas.Bool.Decides.{nat_tests}
use Rattle.spans.proofs.SameLemmas.{findings_pairs}
use Rattle.spans.proofs.watching.findings_eq.Goals as goal

pub returns : goal.returns
returns c = c.pairs_findings.ensures ∙ findings_pairs c.args.xs.now c.args.ys.now (grind (arith, rules, nat_tests, c.if-xs-ys.false))
