use Rattle.std.proofs.Common.{◌≡◌, ◌∙◌, ◌+◌, ◌<◌, ap, refl, sym, length, arith, ℕ}
use Rattle.std.specs.List.{list_any}
use Rattle.shard_state.specs.State.{data_of}
use Rattle.arrivals.specs.Ways.{is_feed_below}
use Rattle.arrivals.proofs.WayLemmas.{no_feed_yet, no_feed_from, feed_found}
use Rattle.arrivals.proofs.offers.is_feed_to.Goals as goal

pub loop-from-init : goal.loop-from-init
loop-from-init c = no_feed_yet (data_of c.args.fields.now) c.args.to c.args.replica.now c.args.next

pub returns-then-is_feed_on : goal.returns-then-is_feed_on
returns-then-is_feed_on c =
    let d = data_of c.args.fields.now in
    let within : c.loop-from.from < length d.aliases + 1 = omega (arith, ap length c.aliases.ensures, c.loop-from-test.true) in
    sym (feed_found d c.loop-from.from c.args.to c.args.replica.now c.args.next within (sym c.is_feed_on.ensures ∙ c.if-is_feed_on.true))

pub loop-from-preserved : goal.loop-from-preserved
loop-from-preserved c =
    no_feed_from (data_of c.args.fields.now) c.loop-from.from (c.loop-from.from + 1) c.args.to c.args.replica.now c.args.next refl c.loop-from.invariant
    (sym c.is_feed_on.ensures ∙ c.if-is_feed_on.false)

pub returns : goal.returns
returns c =
    let d = data_of c.args.fields.now in
    let over : length d.aliases + 1 ≡ c.loop-from.from = omega (arith, ap length c.aliases.ensures, c.loop-from-test.false, c.loop-from.auto.from-end) in
    sym (ap (λ (n : ℕ). list_any (is_feed_below d n c.args.to c.args.replica.now c.args.next) d.messages) over ∙ c.loop-from.invariant)
