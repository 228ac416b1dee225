use Rattle.std.proofs.lemmas.Result.{on_ok_weaker}
use Rattle.shard_calls.specs.World.{with_act}
use Rattle.changes.proofs.ActLemmas.{set_at, none_at}
use Rattle.changes.proofs.acts.act.Goals as goal

pub returns-in-Some-clause-ok : goal.returns-in-Some-clause-ok
returns-in-Some-clause-ok c =
    let found = rw c.deref.ensures.value at c.in-Some.ensures in
    on_ok_weaker c.act_in.result
    (λ new. set_at c.args.commands.now.items c.args.command c.in-Some.at (with_act c.args.new) c.index_mut.result.now c.act_in.new.state found.0 found.1 c.index_mut.ensures.value new)
    c.act_in.ensures.ok

pub returns-in-None-clause-ok : goal.returns-in-None-clause-ok
returns-in-None-clause-ok c =
    let none = rw c.deref.ensures.value at c.in-None.ensures in
    none_at c.args.commands.now.items c.args.command (with_act c.args.new) none
