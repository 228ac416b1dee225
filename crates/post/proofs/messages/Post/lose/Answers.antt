use Rattle.std.proofs.Common.{refl}
use Rattle.shard_calls.specs.World.{vanishes}
use Rattle.post.proofs.KeptLemmas.{kept_left, lost_gone}
use Rattle.post.proofs.WayLemmas.{way_left}
use Rattle.post.proofs.messages.Post.lose.Goals as goal

pub invariant_of-self : goal.invariant_of-self
invariant_of-self c =
    let a = c.self.inside in (
      kept_left a.aliases.items c.deref.result.now a.messages.items c.deref-2.result.now c.lose_at.new.messages.items a.queues.items c.leave.new.queues.items a.answers.items
          c.args.number vanishes (λ m. refl) lost_gone c.deref.ensures.value c.deref-2.ensures.value c.leave.ensures.queues c.lose_at.ensures c.self.invariant.0,
      way_left a.messages.items c.deref-2.result.now c.lose_at.new.messages.items a.inboxes.items c.leave.new.inboxes.items c.args.number vanishes lost_gone c.deref-2.ensures.value c.leave.ensures.inboxes c.lose_at.ensures
          c.self.invariant.1,
    )
