use Rattle.std.proofs.Common.{ap, sym, ◌∙◌}
use Rattle.gtid_sets.specs.Intervals.{holds}
use Rattle.gtid_sets.proofs.PutLemmas.{has_some, has_none}
use Rattle.gtid_sets.proofs.intervals.has.Goals as goal

pub returns-in-Some : goal.returns-in-Some
returns-in-Some c =
    let found = c.in-Some.ensures.lookup in
    c.holds.ensures ∙ ap (λ x. holds x c.args.gtid.now) found.1
    ∙ has_some c.args.gtid.now c.args.intervals.now c.place_of-place.result c.in-Some.interval.now c.requires (sym c.place_of-place.ensures) found.3.0

pub returns-in-None : goal.returns-in-None
returns-in-None c = has_none c.args.gtid.now c.args.intervals.now c.place_of-place.result c.requires (sym c.place_of-place.ensures) c.in-None.ensures.lookup.3
