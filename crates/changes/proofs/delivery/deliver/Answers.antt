use Rattle.std.proofs.Common.{arith, sym}
use Rattle.shard_calls.specs.declared.post.Content.TheVariants as contents
use Rattle.shard_state.specs.State.{data_of, seen, config_in, group_in}
use Rattle.changes.proofs.FewLemmas.{few_numbers}
use Rattle.changes.proofs.DeliverLemmas.{all_know_alias, sound_here}
use Rattle.changes.proofs.delivery.deliver.Goals as goal

pub deliver_call-requires-clause-numbered : goal.deliver_call-requires-clause-numbered
deliver_call-requires-clause-numbered c = λ server. omega (arith, few_numbers 1048576 (seen (data_of c.args.fields.now)) c.in-Asks.to c.requires.few server)

pub deliver_ack-requires-clause-known : goal.deliver_ack-requires-clause-known
deliver_ack-requires-clause-known c =
    let here = rw c.in-Some.is at c.message.ensures in
    let declared = sound_here (config_in (data_of c.args.fields.now)) (seen (data_of c.args.fields.now)) c.args.message c.in-Some.there.now
    (contents.Acks c.in-Acks.from c.in-Acks.to c.in-Acks.term c.in-Acks.index) c.requires.sound (sym here) c.in-Acks.is in
    all_know_alias (group_in (data_of c.args.fields.now)) c.args.fields.now.managers.items c.in-Acks.from c.requires.fits.group declared.0
