use Rattle.std.proofs.Common.{refl}
use Rattle.shard_calls.specs.World.{arrives}
use Rattle.post.proofs.KeptLemmas.{kept_left}
use Rattle.post.proofs.WayLemmas.{way_left}
use Rattle.post.proofs.messages.Post.arrive.Goals as goal

pub invariant_of-self : goal.invariant_of-self
invariant_of-self c =
    let a = c.self.inside in (
      kept_left a.aliases.items c.deref.result.now a.messages.items c.deref-2.result.now c.arrive_at.new.messages.items a.queues.items c.leave.new.queues.items a.answers.items
          c.args.number (arrives c.args.now) (λ m. refl) (λ m. refl) c.deref.ensures.value c.deref-2.ensures.value c.leave.ensures.queues c.arrive_at.ensures c.self.invariant.0,
      way_left a.messages.items c.deref-2.result.now c.arrive_at.new.messages.items a.inboxes.items c.leave.new.inboxes.items c.args.number (arrives c.args.now) (λ m. refl) c.deref-2.ensures.value c.leave.ensures.inboxes c.arrive_at.ensures
          c.self.invariant.1,
    )
