use Rattle.std.proofs.Common.{◌≤◌, ◌<◌, sym, arith}
use Rattle.shard_names.specs.Tablets.{is_among}
use Rattle.durability.specs.Sets.{ackers_in}
use Rattle.durability.proofs.EstablishLemmas.{enough_establish, short_fails}
use Rattle.durability.proofs.revocation.can_establish.Goals as goal

pub returns-then-have-need-clause-ok : goal.returns-then-have-need-clause-ok
returns-then-have-need-clause-ok g c =
    let short : ackers_in (g.P.Policy.rules c.args.policy.now) c.args.tablets.now c.in-Some.tablet.now (is_among c.args.reached.now) < (g.P.Policy.rules c.args.policy.now).acks c.in-Some.tablet.now = omega (arith, c.count_reached_ackers-have.ensures.value, c.acks-need.ensures) in
    short_fails (g.P.Policy.rules c.args.policy.now) c.args.tablets.now (is_among c.args.reached.now) c.args.chosen.now c.in-Some.tablet.now (sym c.in-Some.ensures) short

pub returns-clause-ok : goal.returns-clause-ok
returns-clause-ok g c =
    let enough : (g.P.Policy.rules c.args.policy.now).acks c.in-Some.tablet.now ≤ ackers_in (g.P.Policy.rules c.args.policy.now) c.args.tablets.now c.in-Some.tablet.now (is_among c.args.reached.now) = omega (arith, c.count_reached_ackers-have.ensures.value, c.acks-need.ensures) in
    enough_establish (g.P.Policy.rules c.args.policy.now) c.args.tablets.now (is_among c.args.reached.now) c.args.chosen.now c.in-Some.tablet.now (sym c.in-Some.ensures) c.requires.in_reach enough
