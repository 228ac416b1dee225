use Rattle.shard_calls.specs.Tablets.{after_crash}
use Rattle.shard_state.proofs.PlaceLemmas.{nothing_declared}
use Rattle.changes.proofs.PlaceLemmas.{changes_here}
use Rattle.changes.proofs.tablets.crash_at.Goals as goal

pub unreachable-requires : goal.unreachable-requires
unreachable-requires c =
    let none = rw c.deref.ensures.value at c.in-None.ensures in
    nothing_declared c.args.managers.now.items c.args.alias.now none c.requires

pub returns : goal.returns
returns c =
    let found = rw c.deref.ensures.value at c.in-Some.ensures in
    changes_here c.args.managers.now.items c.args.alias.now c.in-Some.at c.index_mut.result.now c.crash.new.self after_crash
    found.0 found.1 c.index_mut.ensures.value c.crash.ensures.who c.crash.ensures.state
