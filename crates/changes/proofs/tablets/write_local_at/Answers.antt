use Rattle.std.proofs.Common.{ap, ◌∙◌}
use Rattle.shard_calls.specs.Tablets.{writes_local}
use Rattle.shard_calls.specs.Writes.{written_reply}
use Rattle.shard_state.proofs.PlaceLemmas.{nothing_declared}
use Rattle.changes.proofs.PlaceLemmas.{few_here, becomes_here, said_here}
use Rattle.changes.proofs.tablets.write_local_at.Goals as goal

pub local_write-requires : goal.local_write-requires
local_write-requires c =
    let found = rw c.deref.ensures.value at c.in-Some.ensures in
    few_here 9223372036854775805 c.args.managers.now.items c.args.alias.now c.in-Some.at c.index_mut.result.now found.1 c.index_mut.ensures.value c.requires.numbered

pub unreachable-requires : goal.unreachable-requires
unreachable-requires c =
    let none = rw c.deref.ensures.value at c.in-None.ensures in
    nothing_declared c.args.managers.now.items c.args.alias.now none c.requires.declared

pub returns-clause-state : goal.returns-clause-state
returns-clause-state c =
    let found = rw c.deref.ensures.value at c.in-Some.ensures in
    becomes_here c.args.managers.now.items c.args.alias.now c.in-Some.at c.index_mut.result.now c.local_write.new.self (λ me s. (writes_local me s).state) found.0 found.1 c.index_mut.ensures.value
    c.local_write.ensures.who c.in_ok-written-in-Some.ensures.state

pub returns-clause-reply : goal.returns-clause-reply
returns-clause-reply c = λ me is.
    let found = rw c.deref.ensures.value at c.in-Some.ensures in
    said_here c.args.managers.now.items c.args.alias.now c.in-Some.at c.index_mut.result.now (λ who s. written_reply (writes_local who s).says) c.written_reply.result me found.1 c.index_mut.ensures.value
    (c.written_reply.ensures ∙ ap written_reply c.in_ok-written-in-Some.ensures.answer) is
