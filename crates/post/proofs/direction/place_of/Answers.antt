use Rattle.std.proofs.Common.{◌∙◌, sym}
use Rattle.post.proofs.QueueLemmas.{stranger}
use Rattle.post.proofs.direction.place_of.Goals as goal

pub returns-in-None-clause-place : goal.returns-in-None-clause-place
returns-in-None-clause-place c = stranger _ c.args.aliases.now (sym c.find.ensures ∙ c.in-None.is)
