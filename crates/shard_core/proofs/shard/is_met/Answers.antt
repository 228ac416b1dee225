use Rattle.std.proofs.Common.{◌≡◌, Bool, IfOk, subst, sym, ◌∙◌}
use Rattle.shard_state.specs.State.{data_of}
use Rattle.shard_core.proofs.RunLemmas.{met_there}
use Rattle.shard_core.proofs.shard.is_met.Goals as goal

pub returns-clause-met : goal.returns-clause-met
returns-clause-met c =
    subst (λ (b : Bool). IfOk c.meets.result (λ met. met ≡ b))
    (sym (met_there (data_of c.args.fields.now) c.args.history.now.steps.items c.args.event.now c.requires.leads)) c.meets.ensures.met
