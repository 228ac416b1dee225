use Rattle.std.proofs.Common.{◌+◌, ◌-◌, length}
use Rattle.post.specs.Kept.{HoldSame}
use Rattle.post.proofs.beside.make_room.Given as goal

abbrev pub invariant-loop-alloc : goal.invariant-loop-alloc
invariant-loop-alloc l = HoldSame l.fn.inboxes.items l.inboxes.items

abbrev pub decreases-loop-alloc : goal.decreases-loop-alloc
decreases-loop-alloc l = (l.to + 1) - length l.inboxes.items
