use Rattle.std.proofs.Common.{◌≡◌, true, arith}
use Rattle.std.proofs.lemmas.Grind.{common_steps}
use Rattle.shard_calls.specs.Stands.{is_primary_of}
use Rattle.tablet_manager.specs.Manager.{managed_of}
use Rattle.tablet_manager.proofs.ManagedLemmas.{acked_state}
use Rattle.tablet_manager.proofs.manager.Manager.ack.Goals as goal

pub returns-clause-state : goal.returns-clause-state
returns-clause-state c =
    let primary : is_primary_of c.self.inside.stand c.args.term ≡ true = grind (arith, common_steps) in
    rw (← c.self.view_is) (acked_state (managed_of c.self.inside) c.ack.new.self c.args.from.now c.args.term c.args.index primary c.ack.ensures.acked)
