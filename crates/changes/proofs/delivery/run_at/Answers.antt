use Rattle.std.proofs.Common.{ap, sym, subst, ◌∙◌}
use Rattle.std.proofs.lemmas.Result.{on_ok_weaker, IfOk-weaker}
use Rattle.shard_names.specs.declared.alias.Alias.{Alias}
use Rattle.shard_calls.specs.declared.group.Group.{Group}
use Rattle.shard_calls.specs.Stands.{is_down}
use Rattle.shard_calls.specs.Tablets.{TabletState, after_call, answer_to}
use Rattle.tablet_manager.specs.Managed.{Managed, state_of}
use Rattle.changes.specs.Sound.{FitsCall}
use Rattle.shard_state.proofs.PlaceLemmas.{nothing_declared}
use Rattle.changes.proofs.PlaceLemmas.{few_here, becomes_here, said_here, state_is}
use Rattle.changes.proofs.DeliverLemmas.{alias_here, group_here}
use Rattle.changes.proofs.delivery.run_at.Goals as goal

pub run-requires-clause-up : goal.run-requires-clause-up
run-requires-clause-up c =
    let found = rw c.deref.ensures.value at c.in-Some.ensures in
    ap (λ (s : TabletState). is_down s.stand) (state_is c.args.managers.now.items c.args.alias.now c.in-Some.at c.index_mut.result.now found.1 c.index_mut.ensures.value) ∙ c.requires.up

pub run-requires-clause-numbered : goal.run-requires-clause-numbered
run-requires-clause-numbered c =
    let found = rw c.deref.ensures.value at c.in-Some.ensures in
    few_here 9223372036854775805 c.args.managers.now.items c.args.alias.now c.in-Some.at c.index_mut.result.now found.1 c.index_mut.ensures.value c.requires.numbered

pub run-requires-clause-fits : goal.run-requires-clause-fits
run-requires-clause-fits c =
    let found = rw c.deref.ensures.value at c.in-Some.ensures in
    let name = ap (λ (m : Managed). m.me.alias) c.index_mut.ensures.value ∙ alias_here c.args.managers.now.items c.args.alias.now c.in-Some.at c.index_mut.result.now found.1 in
    subst (λ (a : Alias). FitsCall a c.args.term c.args.call.now) (sym name) c.requires.fits

pub unreachable-requires : goal.unreachable-requires
unreachable-requires c =
    let none = rw c.deref.ensures.value at c.in-None.ensures in
    nothing_declared c.args.managers.now.items c.args.alias.now none c.requires.declared

pub returns-clause-state : goal.returns-clause-state
returns-clause-state c =
    let found = rw c.deref.ensures.value at c.in-Some.ensures in
    on_ok_weaker c.run.result
    (λ new g all. becomes_here c.args.managers.now.items c.args.alias.now c.in-Some.at c.index_mut.result.now c.run.new.manager (λ me s. after_call g me c.args.term c.args.call.now s) found.0 found.1
    c.index_mut.ensures.value c.run.ensures.who
    (new ∙ ap (λ (x : Group). after_call x c.index_mut.result.now.me c.args.term c.args.call.now (state_of c.index_mut.result.now))
    (group_here g c.args.managers.now.items c.in-Some.at c.index_mut.result.now found.0 c.index_mut.ensures.value all)))
    c.run.ensures.state

pub returns-clause-answer : goal.returns-clause-answer
returns-clause-answer c =
    let found = rw c.deref.ensures.value at c.in-Some.ensures in
    IfOk-weaker c.run.result _ _
    (λ answer says g me all is. said_here c.args.managers.now.items c.args.alias.now c.in-Some.at c.index_mut.result.now (λ who s. answer_to g who c.args.term c.args.call.now s) answer me found.1
    c.index_mut.ensures.value
    (says ∙ ap (λ (x : Group). answer_to x c.index_mut.result.now.me c.args.term c.args.call.now (state_of c.index_mut.result.now))
    (group_here g c.args.managers.now.items c.in-Some.at c.index_mut.result.now found.0 c.index_mut.ensures.value all)) is)
    c.run.ensures.answer
