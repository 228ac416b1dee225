use Rattle.std.proofs.Common.{◌∙◌, ap, sym}
use Rattle.gtid_sets.specs.Position.{Position, with_gtid}
use Rattle.shard_calls.proofs.LogLemmas.{position-push}
use Rattle.tablet_manager.proofs.plain_log.PlainLog.held_with.Goals as goal

pub returns : goal.returns
returns c =
    rw (← c.self.view_is) (c.in_ok-add.ensures.ok
    ∙ ap (λ (p : Position). with_gtid p c.args.entry.now.gtid) (c.in_ok-position.ensures ∙ c.self.invariant.held)
    ∙ sym (position-push c.self.inside.entries.items c.args.entry.now))
