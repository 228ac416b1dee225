use Rattle.script_commands.proofs.MomentLemmas.{part_small}
use Rattle.script_commands.proofs.moment.part.Goals as goal

pub returns-clause-small : goal.returns-clause-small
returns-clause-small c = rw (c.unwrap_or.ensures, c.read_within.ensures) (part_small _)
