use Rattle.std.proofs.Common.{◌≡◌, ◌∙◌, ap, sym, subst, List, [], true, length}
use Rattle.std.proofs.lemmas.Result.{on_ok_weaker}
use Rattle.shard_calls.specs.declared.post.Message.{Message}
use Rattle.post.specs.Waiting.{answers_on}
use Rattle.post.proofs.BackLemmas.{none_answers}
use Rattle.shard_names.specs.declared.alias.Alias.{Alias}
use Rattle.post.specs.Posted.{Posted, answers_what_was_sent}
use Rattle.post.specs.Kept.{direction_of}
use Rattle.post.proofs.KeptLemmas.{kept_sent}
use Rattle.post.proofs.WayLemmas.{way_sent}
use Rattle.post.proofs.messages.Post.send.Goals as goal

pub invariant_of-self : goal.invariant_of-self
invariant_of-self c =
    let a = c.self.inside in
    let sent : answers_what_was_sent a.messages.items c.args.content ≡ true = ap (λ (p : Posted). answers_what_was_sent p.messages c.args.content) c.self.view_is ∙ c.requires in
    let at : c.direction_of-at.result ≡ direction_of a.aliases.items c.args.content =
    c.direction_of-at.ensures.number ∙ ap (λ (xs : List Alias). direction_of xs c.args.content) c.as_slice.ensures.value in
    let new = rw c.sent_at-message.ensures at c.add.ensures.ok_messages in
    let after = rw at at c.add.ensures.ok_queues in
    let boxes = rw c.receiver-to.ensures at c.add.ensures.ok_inboxes in
    let more = rw c.asked_by-call.ensures at c.add.ensures.ok_answers in (
      kept_sent c.add.result a.aliases.items a.messages.items c.add.new.messages.items a.queues.items c.add.new.queues.items a.answers.items c.add.new.answers.items c.args.content c.args.now
          sent new after more c.add.ensures.err_messages c.add.ensures.err_queues c.add.ensures.err_answers c.self.invariant.0,
      way_sent c.add.result a.messages.items c.add.new.messages.items a.inboxes.items c.add.new.inboxes.items c.args.content c.args.now
          new boxes c.add.ensures.err_messages c.add.ensures.err_inboxes c.self.invariant.1,
    )

pub returns-clause-unanswered : goal.returns-clause-unanswered
returns-clause-unanswered c =
    let a = c.self.inside in
    let sent : answers_what_was_sent a.messages.items c.args.content ≡ true = ap (λ (p : Posted). answers_what_was_sent p.messages c.args.content) c.self.view_is ∙ c.requires in
    on_ok_weaker c.add.result
    (λ new.
    let one = rw c.sent_at-message.ensures at new in
    subst (λ (ms : List Message). answers_on ms (length ms) ≡ []) (sym one)
    (none_answers a.aliases.items a.messages.items a.queues.items a.answers.items c.args.content c.args.now c.self.invariant.0 sent))
    c.add.ensures.ok_messages
