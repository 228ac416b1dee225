use Rattle.std.proofs.Common.{◌+◌, take, ap, ◌∙◌, arith}
use Rattle.gtid_sets.specs.Intervals.{size, total}
use Rattle.gtid_sets.proofs.ListedLemmas.{total_more}
use Rattle.gtid_sets.proofs.intervals.count.Goals as goal

pub loop-interval-preserved : goal.loop-interval-preserved
loop-interval-preserved c = record {
  so_far = ap (λ n. n + c.count-total.result) c.loop-interval.invariant.so_far ∙ ap (λ n. total (take c.loop-interval.interval-index c.args.intervals.now) + n) (c.count-total.ensures.value ∙ ap size c.interval-item.is)
      ∙ total_more c.args.intervals.now c.loop-interval.interval-index c.interval-item.result c.loop-interval-test.true;
  bounded = omega (arith, c.count-total.ensures.bounded, c.loop-interval.invariant.bounded);
}
