use Rattle.std.proofs.Common.{refl, ap, ◌∙◌}
use Rattle.shard_calls.specs.declared.answer.Answer.TheVariants as answers
use Rattle.post.specs.Posted.{Posted}
use Rattle.shard_state.specs.State.{data_of, seen, config_in, group_in, tablets_of, state_at}
use Rattle.changes.proofs.DeliverLemmas.{the_tablet, called, called_reply, answered_post}
use Rattle.changes.proofs.delivery.deliver_call.Goals as goal

pub returns-in-Ok-clause-made : goal.returns-in-Ok-clause-made
returns-in-Ok-clause-made c =
    let me = the_tablet (tablets_of c.args.fields.now.managers.items) c.args.to.now c.requires.declared in
    let group = group_in (data_of c.args.fields.now) in
    let changes = c.in-Ok.ensures.state group c.requires.group me.0 me.1 in
    let says = c.in-Ok.ensures.answer group me.0 c.requires.group me.1 in
    let tablets = changes.tablets in
    let sent = ap (λ (p : Posted). p.messages) c.in_ok-number.ensures.ok in
    let amended = ap (λ (p : Posted). p.messages) c.amend.ensures in
    let arrived = ap (λ (p : Posted). p.messages) c.arrive.ensures in
    let post = answered_post c.args.fields.now.post.messages c.send.new.self.messages c.amend.new.self.messages c.arrive.new.self.messages c.args.message c.in_ok-number.number c.args.fields.now.clock
    c.args.command c.args.to.now c.blank.result c.in-Ok.answer answers.Joined c.requires.here.message c.blank.ensures c.in_ok-number.ensures.number c.requires.here.here sent amended arrived in
    record {
      config = λ i. record { tablets = tablets i; policy = c.args.fields.now.policy; moment = c.args.fields.now.moment };
      aliases = ap (λ (p : Posted). p.aliases) c.arrive.ensures ∙ ap (λ (p : Posted). p.aliases) c.amend.ensures ∙ ap (λ (p : Posted). p.aliases) c.in_ok-number.ensures.ok;
      marks = refl;
      groups = changes.groups;
      world = called (config_in (data_of c.args.fields.now)) (seen (data_of c.args.fields.now)) c.args.message c.args.command c.args.term c.args.to.now c.args.call.now c.requires.here me.0
          (record { tablets = tablets_of c.run_at.new.managers.items; policy = c.args.fields.now.policy }) (state_at c.run_at.new.managers.items) c.arrive.new.self.messages c.in-Ok.answer me.1
          (λ i. record { tablets = tablets i; policy = c.args.fields.now.policy }) changes.states says post;
      reply = called_reply (seen (data_of c.args.fields.now)) c.args.message c.args.command c.args.term c.in_ok-number.number c.args.to.now c.args.call.now c.requires.here c.in_ok-number.ensures.number;
    }
