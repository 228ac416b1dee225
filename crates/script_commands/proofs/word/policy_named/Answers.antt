use Rattle.std.proofs.Common.{◌∙◌}
use Rattle.script_commands.proofs.PolicyLemmas.{reader_is}
use Rattle.script_commands.proofs.word.policy_named.Goals as goal

pub returns : goal.returns
returns c = c.ok.ensures.value ∙ reader_is c.args.name.now c.read_policy.result c.read_policy.ensures.named c.read_policy.ensures.unknown
