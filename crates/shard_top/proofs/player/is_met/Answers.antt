use Rattle.std.proofs.Common.{◌&&◌, Bool, ap, ◌∙◌}
use Rattle.shard_calls.specs.Table.{meets}
use Rattle.shard_core.specs.Kept.{world_of}
use Rattle.shard_top.proofs.player.is_met.Goals as goal

pub returns : goal.returns
returns c = c.meets_at_once.ensures ∙ ap (λ (b : Bool). b && meets c.args.shard.now.config (world_of c.args.shard.now) c.args.event.now) c.requires
