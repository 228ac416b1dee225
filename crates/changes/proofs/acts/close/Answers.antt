use Rattle.std.proofs.Common.{arith, rules}
use Rattle.shard_calls.specs.Begins.{closes}
use Rattle.changes.proofs.ActLemmas.{set_one, changed_far}
use Rattle.changes.proofs.acts.close.Goals as goal

pub returns-then-at-len : goal.returns-then-at-len
returns-then-at-len c =
    set_one c.args.actors.now.items c.args.at closes c.index_mut.result.now c.close_in.new.actor (grind (arith, rules, c.if-at-len.true, c.len.ensures)) c.index_mut.ensures.value c.close_in.ensures

pub returns-else-at-len : goal.returns-else-at-len
returns-else-at-len c = changed_far c.args.actors.now.items c.args.at closes (grind (arith, rules, c.if-at-len.false, c.len.ensures))
