use Rattle.std.proofs.Common.{◌≡◌, ℕ, ◌<◌, get_or, length}
use Rattle.replication.proofs.acks.zero_all.Given as goal

abbrev pub invariant-loop-index : goal.invariant-loop-index
invariant-loop-index l = ((k : ℕ) → k < l.index-index → get_or l.indexes k 0 ≡ 0) × (length l.indexes ≡ length l.initial.indexes)
