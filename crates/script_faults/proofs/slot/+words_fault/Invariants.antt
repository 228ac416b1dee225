use Rattle.std.proofs.Common.{length}
use Rattle.script_faults.proofs.slot.+words_fault.Given as goal

abbrev pub decreases-words_fault : goal.decreases-words_fault
decreases-words_fault l = length l.slots.now
