use Rattle.shard_calls.specs.Tablets.{TabletState, after_ack}
use Rattle.shard_state.proofs.PlaceLemmas.{nothing_declared}
use Rattle.changes.proofs.PlaceLemmas.{changes_here}
use Rattle.changes.proofs.DeliverLemmas.{acker_here}
use Rattle.changes.proofs.delivery.ack_at.Goals as goal

pub ack-requires : goal.ack-requires
ack-requires c =
    let found = rw c.deref.ensures.value at c.in-Some.ensures in
    acker_here c.args.managers.now.items c.in-Some.at c.index_mut.result.now c.args.from.now found.0 c.index_mut.ensures.value c.requires.known

pub unreachable-requires : goal.unreachable-requires
unreachable-requires c =
    let none = rw c.deref.ensures.value at c.in-None.ensures in
    nothing_declared c.args.managers.now.items c.args.alias.now none c.requires.declared

pub returns : goal.returns
returns c =
    let found = rw c.deref.ensures.value at c.in-Some.ensures in
    changes_here c.args.managers.now.items c.args.alias.now c.in-Some.at c.index_mut.result.now c.ack.new.self (λ (s : TabletState). after_ack c.args.from.now c.args.term c.args.index s) found.0 found.1 c.index_mut.ensures.value
    c.ack.ensures.who c.ack.ensures.state
