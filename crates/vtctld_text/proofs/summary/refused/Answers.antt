use Rattle.std.proofs.Common.{rules, tests}
use Rattle.std.proofs.lemmas.Iterator.Consumers.{count_from_yields_List, YieldsList-from_filter}
use Rattle.std.proofs.lemmas.Iterator.{YieldsList-from_slice}
use Rattle.vtctld_text.specs.Summary.{ends_refused}
use Rattle.vtctld_text.proofs.summary.refused.Goals as goal

pub returns : goal.returns
returns c =
    count_from_yields_List c.filter.result _ c.count.ensures.ran (YieldsList-from_filter _ ends_refused (YieldsList-from_slice c.args.steps.now cc) c.filter.ensures.closure (λ x r q k. search (rules, tests)))
