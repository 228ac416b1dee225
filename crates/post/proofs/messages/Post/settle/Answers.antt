use Rattle.std.proofs.Common.{refl}
use Rattle.shard_calls.specs.World.{settles}
use Rattle.post.proofs.KeptLemmas.{kept_stays}
use Rattle.post.proofs.WayLemmas.{way_stays}
use Rattle.post.proofs.messages.Post.settle.Goals as goal

pub invariant_of-self : goal.invariant_of-self
invariant_of-self c =
    let a = c.self.inside in (
      kept_stays a.aliases.items a.messages.items c.settle_at.new.messages.items a.queues.items a.answers.items c.args.number (settles c.args.settled) (λ m. refl) (λ m. refl)
          c.settle_at.ensures c.self.invariant.0,
      way_stays a.messages.items c.settle_at.new.messages.items a.inboxes.items c.args.number (settles c.args.settled) (λ m. refl) (λ m. refl) c.settle_at.ensures c.self.invariant.1,
    )
