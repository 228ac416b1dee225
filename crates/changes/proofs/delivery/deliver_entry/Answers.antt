use Rattle.std.proofs.Common.{refl, ◌≡◌, ap, sym, true, ◌∙◌}
use Rattle.shard_calls.specs.declared.post.Content.TheVariants as contents
use Rattle.shard_calls.specs.Stands.{takes_from}
use Rattle.post.specs.Posted.{Posted}
use Rattle.shard_state.specs.State.{data_of, seen, config_in, tablets_of, state_at}
use Rattle.changes.proofs.DeliverLemmas.{entry_taken, taken_reply, acked_post}
use Rattle.changes.proofs.delivery.deliver_entry.Goals as goal

pub returns-in-Ok-clause-made : goal.returns-in-Ok-clause-made
returns-in-Ok-clause-made c =
    let asked = rw c.deref.ensures.value at c.takes_at.ensures in
    let takes : takes_from (state_at c.args.fields.now.managers.items c.args.to.now).stand c.args.from.now c.args.term c.args.after ≡ true = sym asked ∙ c.if-not-takes_at.false in
    let changes = c.in-Ok.ensures.state in
    let tablets = changes.tablets in
    let sent = ap (λ (p : Posted). p.messages) c.in_ok-number.ensures.ok in
    let arrived = ap (λ (p : Posted). p.messages) c.arrive-in-Ok.ensures in
    let post = acked_post c.args.fields.now.post.messages c.send.new.self.messages c.arrive-in-Ok.new.self.messages c.args.message c.args.fields.now.clock
    (contents.Acks c.args.to.now c.args.from.now c.args.term c.args.index) c.requires.here.message c.requires.here.here sent arrived in
    record {
      config = λ i. record { tablets = tablets i; policy = c.args.fields.now.policy; moment = c.args.fields.now.moment };
      aliases = ap (λ (p : Posted). p.aliases) c.arrive-in-Ok.ensures ∙ ap (λ (p : Posted). p.aliases) c.in_ok-number.ensures.ok;
      marks = refl;
      groups = changes.groups;
      world = entry_taken (config_in (data_of c.args.fields.now)) (seen (data_of c.args.fields.now)) c.args.message c.args.term c.args.after c.args.index c.args.from.now c.args.to.now c.args.entry.now c.requires.here
          (record { tablets = tablets_of c.accept_at.new.managers.items; policy = c.args.fields.now.policy }) (state_at c.accept_at.new.managers.items) c.arrive-in-Ok.new.self.messages takes
          (λ i. record { tablets = tablets i; policy = c.args.fields.now.policy }) changes.states post;
      reply = taken_reply (seen (data_of c.args.fields.now)) c.args.message c.args.term c.args.after c.args.index c.in_ok-number.number c.args.from.now c.args.to.now c.args.entry.now c.requires.here takes
          c.in_ok-number.ensures.number;
    }
