use Rattle.std.proofs.Common.{Option, refl, ap, sym, ◌∙◌}
use Rattle.shard_calls.specs.declared.state.Act.{Act}
use Rattle.shard_calls.specs.World.{changed_at}
use Rattle.shard_calls.specs.Locks.{with_act_if}
use Rattle.changes.proofs.ActLemmas.{changed_same}
use Rattle.changes.proofs.acts.act_if.Goals as goal

pub returns-in-None-clause-ok : goal.returns-in-None-clause-ok
returns-in-None-clause-ok c =
    sym (ap (λ (o : Option Act). changed_at c.args.commands.now.items c.args.command (with_act_if o)) c.in-None.is ∙ changed_same c.args.commands.now.items c.args.command _ (λ s. refl))
