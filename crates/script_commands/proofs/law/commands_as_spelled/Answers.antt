use Rattle.script_commands.proofs.CommandLemmas.{commands_as_spelled}
use Rattle.script_commands.proofs.law.commands_as_spelled.Goals as goal

pub returns : goal.returns
returns c = commands_as_spelled
