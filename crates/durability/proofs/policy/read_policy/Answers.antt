use Rattle.durability.proofs.NameLemmas.{answer_named, answer_unknown}
use Rattle.durability.proofs.policy.read_policy.Goals as goal

pub returns-clause-named : goal.returns-clause-named
returns-clause-named c = answer_named c.args.name.now c.find_policy.result c.ok_or.result c.find_policy.ensures c.ok_or.ensures.value

pub returns-clause-unknown : goal.returns-clause-unknown
returns-clause-unknown c = answer_unknown c.args.name.now c.find_policy.result c.ok_or.result c.find_policy.ensures c.ok_or.ensures.value
