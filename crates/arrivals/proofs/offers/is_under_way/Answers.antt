use Rattle.std.proofs.Common.{◌∙◌, ◌<◌, ap, sym, length, arith}
use Rattle.shard_state.specs.State.{data_of}
use Rattle.arrivals.proofs.WayLemmas.{feeds_to, no_feeds_to}
use Rattle.arrivals.proofs.offers.is_under_way.Goals as goal

pub returns-then-to-aliases : goal.returns-then-to-aliases
returns-then-to-aliases c =
    let d = data_of c.args.fields.now in
    let far : length d.aliases < c.place_of-to.result = omega (arith, ap length c.aliases.ensures, c.if-to-aliases.true) in
    sym (no_feeds_to d c.place_of-to.result c.args.replica.now c.args.next c.requires.known c.requires.addressed c.place_of-to.ensures far)

pub returns : goal.returns
returns c =
    c.is_feed_to.ensures
    ∙ feeds_to (data_of c.args.fields.now) c.place_of-to.result c.args.replica.now c.args.next c.requires.known c.requires.addressed c.place_of-to.ensures
