use Rattle.std.proofs.Common.{◌≡◌, replicate, []}
use Rattle.post.proofs.beside.queues_of.Given as goal

abbrev pub invariant-loop-turn : goal.invariant-loop-turn
invariant-loop-turn l = l.queues.items ≡ replicate l._turn []
