-- The marks of drained tablets over a history: a tablet that is to take no part any more is drained (Vitess manual, tablet types), and stays so.
use Rattle.std.specs.Prelude.{◌≡◌, ◌≤◌, ◌<◌, ℕ, true, List, Some, slice_get}
use Rattle.shard_names.specs.declared.alias.Alias.{Alias}
use Rattle.shard_names.specs.Tablets.{is_among}
use Rattle.shard_calls.specs.declared.event.Event.TheVariants as events
use Rattle.shard_calls.specs.declared.event.Reply.TheVariants as replies
use Rattle.shard_calls.specs.declared.event.Step.{Step}
use Rattle.shard_calls.specs.World.{Config}
use Rattle.shard_calls.specs.Promotions.{world_at}

-- after the first i steps the tablet is marked as drained
abbrev pub IsDrained : Config → List Step → ℕ → Alias → Type 0
IsDrained config steps i a = is_among (world_at config steps i).topo.drained a ≡ true

pub record MarksStay (config : Config) (steps : List Step) : Type 0 where
  -- a Drain under the lock marks its tablet
  pub drains : (i j c : ℕ) (a : Alias) → slice_get steps i ≡ Some (record { event = events.Drain c a; reply = replies.Ok }) → i < j
      → IsDrained config steps j a
  -- and what is marked stays so
  pub stays : (i j : ℕ) (a : Alias) → i ≤ j → IsDrained config steps i a → IsDrained config steps j a
