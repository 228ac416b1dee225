use Rattle.std.proofs.Common.{◌≡◌, length, max}
use Rattle.shard_state.specs.InPlace.{greatest_stopped, stopped_by}
use Rattle.shard_state.proofs.evidence.greatest_newest.Given as goal

abbrev pub invariant-loop-manager : goal.invariant-loop-manager
invariant-loop-manager l =
    greatest_stopped (stopped_by l.fn.post.messages l.fn.acts l.fn.term) l.fn.managers
    ≡ max l.most (greatest_stopped (stopped_by l.fn.post.messages l.fn.acts l.fn.term) l.rest)

abbrev pub decreases-loop-manager : goal.decreases-loop-manager
decreases-loop-manager l = length l.rest
