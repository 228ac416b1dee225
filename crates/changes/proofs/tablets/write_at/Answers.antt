use Rattle.std.proofs.lemmas.Result.{on_ok_weaker, IfOk-weaker}
use Rattle.shard_calls.specs.Tablets.{writes}
use Rattle.shard_state.proofs.PlaceLemmas.{nothing_declared}
use Rattle.changes.proofs.PlaceLemmas.{few_here, becomes_here, said_here}
use Rattle.changes.proofs.tablets.write_at.Goals as goal

pub write-requires : goal.write-requires
write-requires c =
    let found = rw c.deref.ensures.value at c.in-Some.ensures in
    few_here 9223372036854775805 c.args.managers.now.items c.args.alias.now c.in-Some.at c.index_mut.result.now found.1 c.index_mut.ensures.value c.requires.numbered

pub unreachable-requires : goal.unreachable-requires
unreachable-requires c =
    let none = rw c.deref.ensures.value at c.in-None.ensures in
    nothing_declared c.args.managers.now.items c.args.alias.now none c.requires.declared

pub returns-clause-state : goal.returns-clause-state
returns-clause-state c =
    let found = rw c.deref.ensures.value at c.in-Some.ensures in
    on_ok_weaker c.write.result
    (λ new. becomes_here c.args.managers.now.items c.args.alias.now c.in-Some.at c.index_mut.result.now c.write.new.self (λ me s. (writes me c.args.client c.args.number s).state) found.0 found.1 c.index_mut.ensures.value
    c.write.ensures.who new)
    c.write.ensures.state

pub returns-clause-says : goal.returns-clause-says
returns-clause-says c =
    let found = rw c.deref.ensures.value at c.in-Some.ensures in
    IfOk-weaker c.write.result _ _
    (λ written says me is. said_here c.args.managers.now.items c.args.alias.now c.in-Some.at c.index_mut.result.now (λ who s. (writes who c.args.client c.args.number s).says) written me found.1 c.index_mut.ensures.value says is)
    c.write.ensures.answer
