use Rattle.std.proofs.Common.{arith, sym, ◌∙◌}
use Rattle.script_commands.proofs.MomentLemmas.{parts_of_moment}
use Rattle.script_commands.proofs.moment.read_moment.Goals as goal

pub part-requires : goal.part-requires
part-requires c = omega (arith, (parts_of_moment c.args.text.now (sym c.is_moment.ensures ∙ c.if-not-is_moment.false)).long)
