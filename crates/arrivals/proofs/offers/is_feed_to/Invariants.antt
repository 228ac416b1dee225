use Rattle.std.proofs.Common.{◌≡◌, false}
use Rattle.std.specs.List.{list_any}
use Rattle.shard_state.specs.State.{data_of}
use Rattle.arrivals.specs.Ways.{is_feed_below}
use Rattle.arrivals.proofs.offers.is_feed_to.Given as goal

abbrev pub invariant-loop-from : goal.invariant-loop-from
invariant-loop-from l = list_any (is_feed_below (data_of l.fields) l.from l.to l.replica l.next) l.fields.post.messages ≡ false
