use Rattle.std.proofs.Common.{◌≡◌, ◌∙◌, ap, sym, refl, [], length}
use Rattle.post.specs.Posted.{Posted}
use Rattle.post.specs.Waiting.{answers_on}
use Rattle.post.proofs.BackLemmas.{kept_back}
use Rattle.post.proofs.WayLemmas.{way_back}
use Rattle.post.proofs.messages.Post.take_back.Goals as goal

pub invariant_of-self : goal.invariant_of-self
invariant_of-self c =
    let a = c.self.inside in
    let none : answers_on a.messages.items (length a.messages.items) ≡ [] = ap (λ (p : Posted). answers_on p.messages (length p.messages)) c.self.view_is ∙ c.requires in
    let queues = rw (c.deref.ensures.value, c.deref-2.ensures.value) at c.forget.ensures.queues in
    let answers = rw (c.deref-3.ensures.value) at c.forget_answers.ensures in (
      kept_back a.aliases.items a.aliases.items a.messages.items a.messages.items c.drop_last.new.messages.items a.queues.items c.forget.new.queues.items a.answers.items c.forget_answers.new.answers.items c.len-number.result
          c.self.invariant.0 none (c.len-number.ensures ∙ sym c.deref-2.ensures.len ∙ ap length c.deref-2.ensures.value) refl refl queues answers c.drop_last.ensures,
      way_back a.messages.items c.deref-2.result.now c.drop_last.new.messages.items a.inboxes.items c.forget.new.inboxes.items c.len-number.result
          (c.len-number.ensures ∙ sym c.deref-2.ensures.len ∙ ap length c.deref-2.ensures.value) c.deref-2.ensures.value c.forget.ensures.inboxes c.drop_last.ensures c.self.invariant.1,
    )
