use Rattle.std.proofs.lemmas.Result.{on_ok_weaker}
use Rattle.shard_calls.specs.Tablets.{TabletState, accepts}
use Rattle.shard_state.proofs.PlaceLemmas.{nothing_declared}
use Rattle.changes.proofs.PlaceLemmas.{changes_here}
use Rattle.changes.proofs.delivery.accept_at.Goals as goal

pub unreachable-requires : goal.unreachable-requires
unreachable-requires c =
    let none = rw c.deref.ensures.value at c.in-None.ensures in
    nothing_declared c.args.managers.now.items c.args.alias.now none c.requires.declared

pub returns-clause-state : goal.returns-clause-state
returns-clause-state c =
    let found = rw c.deref.ensures.value at c.in-Some.ensures in
    on_ok_weaker c.accept.result
    (λ new. changes_here c.args.managers.now.items c.args.alias.now c.in-Some.at c.index_mut.result.now c.accept.new.self
    (λ (s : TabletState). (accepts c.args.from.now c.args.term c.args.after c.args.index c.args.entry.now s).state) found.0 found.1 c.index_mut.ensures.value c.accept.ensures.who new)
    c.accept.ensures.state
