use Rattle.std.proofs.Common.{◌<◌}
use Rattle.shard_script.proofs.GeneratorLemmas.{Goes}
use Rattle.shard_script.proofs.generator.generated_actions.Given as goal

abbrev pub invariant-loop-round : goal.invariant-loop-round
invariant-loop-round l = Goes l.fn.n l._round l.seed l.actions × (l.seed < 2147483648)
