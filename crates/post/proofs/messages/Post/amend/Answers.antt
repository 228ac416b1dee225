use Rattle.std.proofs.Common.{refl}
use Rattle.post.specs.Posted.{answers_now}
use Rattle.post.proofs.BackLemmas.{kept_amended}
use Rattle.post.proofs.WayLemmas.{receiver_amended, way_stays}
use Rattle.post.proofs.messages.Post.amend.Goals as goal

pub invariant_of-self : goal.invariant_of-self
invariant_of-self c =
    let a = c.self.inside in (
      kept_amended a.aliases.items a.messages.items c.answer_at.new.messages.items a.queues.items a.answers.items c.args.number c.args.answer
          c.answer_at.ensures c.self.invariant.0,
      way_stays a.messages.items c.answer_at.new.messages.items a.inboxes.items c.args.number (answers_now c.args.answer) (λ m. receiver_amended c.args.answer m.content) (λ m. refl) c.answer_at.ensures c.self.invariant.1,
    )
