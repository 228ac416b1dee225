use Rattle.std.proofs.Common.{◌∙◌, ap}
use Rattle.gtid_sets.specs.Position.{Position, has}
use Rattle.shard_calls.proofs.LogLemmas.{has-position}
use Rattle.tablet_manager.proofs.plain_log.PlainLog.holds.Goals as goal

pub returns : goal.returns
returns c =
    rw (← c.self.view_is) (c.contains.ensures
    ∙ ap (λ (p : Position). has p c.args.gtid) c.self.invariant.held
    ∙ has-position c.self.inside.entries.items c.args.gtid)
