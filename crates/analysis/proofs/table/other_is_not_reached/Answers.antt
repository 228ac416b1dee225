use Rattle.std.proofs.Common.{◌∙◌, not}
use Rattle.shard_calls.specs.Analysis.{is_reached, said_in}
use Rattle.analysis.proofs.OtherLemmas.{any_among_others}
use Rattle.analysis.proofs.table.other_is_not_reached.Goals as goal

pub returns : goal.returns
returns c = c.any_other_is_not.ensures ∙ any_among_others c.args.group.now c.args.alias.now (λ t. not (is_reached (said_in c.args.statuses.now) t))
