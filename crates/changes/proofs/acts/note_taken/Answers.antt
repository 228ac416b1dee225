use Rattle.std.proofs.lemmas.Result.{on_ok_weaker}
use Rattle.shard_calls.specs.Locks.{with_taken}
use Rattle.changes.proofs.ActLemmas.{set_at, none_at}
use Rattle.changes.proofs.acts.note_taken.Goals as goal

pub returns-in-Some-clause-ok : goal.returns-in-Some-clause-ok
returns-in-Some-clause-ok c =
    let found = rw c.deref.ensures.value at c.in-Some.ensures in
    on_ok_weaker c.take_in.result
    (λ new. set_at c.args.commands.now.items c.args.command c.in-Some.at (with_taken c.args.taken.now) c.index_mut.result.now c.take_in.new.state found.0 found.1 c.index_mut.ensures.value new)
    c.take_in.ensures.ok

pub returns-in-None-clause-ok : goal.returns-in-None-clause-ok
returns-in-None-clause-ok c =
    let none = rw c.deref.ensures.value at c.in-None.ensures in
    none_at c.args.commands.now.items c.args.command (with_taken c.args.taken.now) none
