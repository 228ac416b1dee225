use Rattle.std.proofs.Common.{arith}
use Rattle.script_commands.proofs.MomentLemmas.{parts_of_moment}
use Rattle.script_commands.proofs.moment.milliseconds_since_1970.Goals as goal

pub part-requires : goal.part-requires
part-requires c = omega (arith, (parts_of_moment c.args.text.now c.requires).long)

pub part-requires-2 : goal.part-requires-2
part-requires-2 c = omega (arith, (parts_of_moment c.args.text.now c.requires).long)

pub part-requires-3 : goal.part-requires-3
part-requires-3 c = omega (arith, (parts_of_moment c.args.text.now c.requires).long)

pub start_of_day-requires-clause-month : goal.start_of_day-requires-clause-month
start_of_day-requires-clause-month c = rw c.part-2.ensures.value (parts_of_moment c.args.text.now c.requires).month

pub start_of_day-requires-clause-day : goal.start_of_day-requires-clause-day
start_of_day-requires-clause-day c = rw (c.part.ensures.value, c.part-2.ensures.value, c.part-3.ensures.value) (parts_of_moment c.args.text.now c.requires).day

pub time_of_day-requires : goal.time_of_day-requires
time_of_day-requires c = (parts_of_moment c.args.text.now c.requires).long
