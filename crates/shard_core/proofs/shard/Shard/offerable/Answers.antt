use Rattle.std.proofs.Common.{sym, ◌∙◌}
use Rattle.shard_state.specs.State.{data_of}
use Rattle.shard_core.proofs.RunLemmas.{addressed, offered_is}
use Rattle.shard_core.proofs.shard.Shard.offerable.Goals as goal

pub offerable-requires-clause-addressed : goal.offerable-requires-clause-addressed
offerable-requires-clause-addressed c = addressed (data_of c.self.inside.fields) c.self.invariant.leads.sound

pub returns : goal.returns
returns c = c.offerable.ensures ∙ sym (offered_is (data_of c.self.inside.fields) c.self.inside.history.steps.items c.self.inside.history.notes.items _ c.self.view_is c.self.invariant.leads)
