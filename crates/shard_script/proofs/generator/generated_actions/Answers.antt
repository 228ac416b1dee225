use Rattle.std.proofs.Common.{arith}
use Rattle.shard_script.proofs.GeneratorLemmas.{goes_on, goes_all}
use Rattle.shard_script.proofs.generator.generated_actions.Goals as goal

pub loop-round-preserved : goal.loop-round-preserved
loop-round-preserved c = (
  goes_on c.args.n c.loop-round._round c.loop-round.seed c.next_seed-seed.result c.loop-round.actions c.push_drawn.new.actions c.loop-round.invariant.0 c.next_seed-seed.ensures.value
      c.in_ok-push_drawn.ensures,
  c.next_seed-seed.ensures.small,
)

pub returns : goal.returns
returns c = goes_all c.args.n c.loop-round._round c.loop-round.seed c.loop-round.actions (omega arith) c.loop-round.invariant.0
