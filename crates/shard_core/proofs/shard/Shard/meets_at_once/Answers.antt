use Rattle.std.proofs.Common.{Bool, ◌&&◌, ap, sym, ◌∙◌}
use Rattle.shard_state.specs.State.{data_of}
use Rattle.shard_core.specs.Causes.{is_told_at_once}
use Rattle.shard_core.proofs.RunLemmas.{addressed, met_is}
use Rattle.shard_core.proofs.shard.Shard.meets_at_once.Goals as goal

pub find-found-requires-clause-addressed : goal.find-found-requires-clause-addressed
find-found-requires-clause-addressed c = addressed (data_of c.self.inside.fields) c.self.invariant.leads.sound

pub returns : goal.returns
returns c =
    c.is_met_at_once.ensures
    ∙ ap (λ (b : Bool). is_told_at_once c.args.event.now && b)
    (sym (met_is (data_of c.self.inside.fields) c.self.inside.history.steps.items c.self.inside.history.notes.items _ c.args.event.now c.self.view_is))

pub find-found-requires-clause-group : goal.find-found-requires-clause-group
find-found-requires-clause-group c = c.self.invariant.leads.fits.group
