use Rattle.shard_calls.specs.declared.state.CommandState.{CommandState}
use Rattle.changes.specs.Places.{without_act}
use Rattle.changes.proofs.ActLemmas.{set_at, none_at}
use Rattle.changes.proofs.acts.forget.Goals as goal

pub returns-in-Some : goal.returns-in-Some
returns-in-Some c =
    let found = rw c.deref.ensures.value at c.in-Some.ensures in
    set_at c.args.commands.now.items c.args.command c.in-Some.at (λ (s : CommandState). without_act s) c.index_mut.result.now c.forget_in.new.state found.0 found.1 c.index_mut.ensures.value c.forget_in.ensures

pub returns-in_default : goal.returns-in_default
returns-in_default c =
    let none = rw c.deref.ensures.value at c.in_default.ensures in
    none_at c.args.commands.now.items c.args.command (λ (s : CommandState). without_act s) none
