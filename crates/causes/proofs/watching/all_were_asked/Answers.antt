use Rattle.std.proofs.Common.{◌∙◌}
use Rattle.causes.proofs.WatchLemmas.{asked_all}
use Rattle.causes.proofs.watching.all_were_asked.Goals as goal

pub returns : goal.returns
returns c = c.all_settled.ensures ∙ asked_all c.args.group.now.tablets c.args.calls.now
