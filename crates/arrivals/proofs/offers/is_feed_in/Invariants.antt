use Rattle.std.proofs.Common.{◌≡◌, drop}
use Rattle.std.specs.List.{list_any}
use Rattle.shard_calls.specs.Messages.{passes}
use Rattle.shard_calls.specs.World.{numbered}
use Rattle.shard_state.specs.State.{data_of}
use Rattle.arrivals.specs.Ways.{is_feed_due}
use Rattle.arrivals.proofs.offers.is_feed_in.Given as goal

abbrev pub invariant-loop-at : goal.invariant-loop-at
invariant-loop-at l =
    list_any (λ k. passes (is_feed_due (data_of l.fields) l.replica l.next) (numbered l.fields.post.messages k)) l.queue
    ≡ list_any (λ k. passes (is_feed_due (data_of l.fields) l.replica l.next) (numbered l.fields.post.messages k)) (drop l.at l.queue)
