use Rattle.std.proofs.Common.{◌∙◌}
use Rattle.shard_calls.specs.Analysis.{is_reached, said_in}
use Rattle.analysis.proofs.OtherLemmas.{any_among_others}
use Rattle.analysis.proofs.table.other_is_reached.Goals as goal

pub returns : goal.returns
returns c = c.any_other_is_reached.ensures ∙ any_among_others c.args.group.now c.args.alias.now (is_reached (said_in c.args.statuses.now))
