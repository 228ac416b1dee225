use Rattle.std.proofs.Common.{arith, rules}
use Rattle.shard_calls.specs.Begins.{opens}
use Rattle.changes.proofs.ActLemmas.{set_one, changed_far}
use Rattle.changes.proofs.acts.open.Goals as goal

pub returns-then-at-len : goal.returns-then-at-len
returns-then-at-len c =
    set_one c.args.actors.now.items c.args.at (opens c.args.number c.args.command.now) c.index_mut.result.now c.open_in.new.actor (grind (arith, rules, c.if-at-len.true, c.len.ensures)) c.index_mut.ensures.value c.open_in.ensures

pub returns-else-at-len : goal.returns-else-at-len
returns-else-at-len c = changed_far c.args.actors.now.items c.args.at (opens c.args.number c.args.command.now) (grind (arith, rules, c.if-at-len.false, c.len.ensures))
