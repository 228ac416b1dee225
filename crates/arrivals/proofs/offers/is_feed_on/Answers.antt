use Rattle.std.proofs.Common.{◌∙◌, ap, ℕ, List}
use Rattle.std.specs.List.{list_any}
use Rattle.shard_calls.specs.Messages.{passes}
use Rattle.shard_calls.specs.World.{numbered}
use Rattle.shard_state.specs.State.{data_of}
use Rattle.arrivals.specs.Ways.{is_feed_due}
use Rattle.arrivals.proofs.WayLemmas.{feed_between}
use Rattle.arrivals.proofs.offers.is_feed_on.Goals as goal

pub returns : goal.returns
returns c =
    let d = data_of c.args.fields.now in
    c.is_feed_in.ensures
    ∙ ap (λ (ns : List ℕ). list_any (λ k. passes (is_feed_due d c.args.replica.now c.args.next) (numbered d.messages k)) ns) c.waiting.ensures
    ∙ feed_between d c.args.from c.args.to c.args.replica.now c.args.next
