use Rattle.std.proofs.Common.{◌∙◌}
use Rattle.refusals.proofs.ReachedLemmas.{reached}
use Rattle.refusals.proofs.rescuing.is_reached.Goals as goal

pub returns : goal.returns
returns c = c.reach.ensures ∙ reached c.args.alias.now c.args.deeds.now
