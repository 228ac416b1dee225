use Rattle.std.proofs.Common.{◌∙◌, sym}
use Rattle.shard_state.specs.State.{data_of}
use Rattle.shard_core.proofs.FoundLemmas.{said_there}
use Rattle.shard_core.proofs.finding.tell_reply.Goals as goal

pub returns-in-Some : goal.returns-in-Some
returns-in-Some c =
    let found = sym (rw c.deref.ensures.value at c.in-Some.ensures.manager) in
    c.said_of.ensures ∙ said_there (data_of c.args.fields.now) c.args.wrote.now c.in-Some.manager.now found c.requires
