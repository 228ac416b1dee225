use Rattle.std.proofs.Common.{◌≡◌, sym, subst, IfOk, OnOk}
use Rattle.shard_calls.specs.declared.answer.Answer.{Answer}
use Rattle.shard_calls.specs.declared.call.Call.{Call}
use Rattle.shard_calls.specs.Tablets.{answer_to, after_call}
use Rattle.tablet_manager.specs.Managed.{state_of}
use Rattle.changes.proofs.delivery.run.Goals as goal

pub returns-in-WaitFor-clause-answer : goal.returns-in-WaitFor-clause-answer
returns-in-WaitFor-clause-answer c =
    subst (λ (x : Call). IfOk c.wait_for.result (λ (answer : Answer). answer ≡ answer_to c.args.manager.now.group c.args.manager.now.me c.args.term x (state_of c.args.manager.now))) (sym c.in-WaitFor.is)
    (c.wait_for.ensures.answer c.in-WaitFor.until)

pub returns-in-WaitFor-clause-state : goal.returns-in-WaitFor-clause-state
returns-in-WaitFor-clause-state c =
    subst (λ (x : Call). OnOk c.wait_for.result (state_of c.wait_for.new.self ≡ after_call c.args.manager.now.group c.args.manager.now.me c.args.term x (state_of c.args.manager.now))) (sym c.in-WaitFor.is)
    (c.wait_for.ensures.state c.in-WaitFor.until)

pub returns-in-WaitTold-clause-answer : goal.returns-in-WaitTold-clause-answer
returns-in-WaitTold-clause-answer c =
    subst (λ (x : Call). IfOk c.wait_told.result (λ (answer : Answer). answer ≡ answer_to c.args.manager.now.group c.args.manager.now.me c.args.term x (state_of c.args.manager.now))) (sym c.in-WaitTold.is)
    (c.wait_told.ensures.answer c.in-WaitTold.until)

pub returns-in-WaitTold-clause-state : goal.returns-in-WaitTold-clause-state
returns-in-WaitTold-clause-state c =
    subst (λ (x : Call). OnOk c.wait_told.result (state_of c.wait_told.new.self ≡ after_call c.args.manager.now.group c.args.manager.now.me c.args.term x (state_of c.args.manager.now))) (sym c.in-WaitTold.is)
    (c.wait_told.ensures.state c.in-WaitTold.until)
