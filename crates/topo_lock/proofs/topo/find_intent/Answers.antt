use Rattle.std.proofs.Common.{◌∙◌, ap}
use Rattle.topo_lock.specs.State.{if_of_term}
use Rattle.topo_lock.proofs.BackLemmas.{find_back}
use Rattle.topo_lock.proofs.topo.find_intent.Goals as goal

pub returns : goal.returns
returns c =
    c.if_of_term.ensures ∙ ap (if_of_term c.args.term) (c.copied.ensures ∙ c.find_within.ensures) ∙ find_back c.args.term c.args.intents.now c.requires.rise
