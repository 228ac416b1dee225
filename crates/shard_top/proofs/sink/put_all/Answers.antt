use Rattle.std.proofs.Common.{◌∙◌, arith, length-drop}
use Rattle.shard_top.proofs.StreamLemmas.{appends_piece, rest_of}
use Rattle.shard_top.proofs.sink.put_all.Goals as goal

pub loop-done-preserved : goal.loop-done-preserved
loop-done-preserved g c = record {
  within = omega (arith, c.in_ok-taken.ensures.bound, length-drop c.loop-done.done c.args.bytes.now);
  put = appends_piece _ _ _ c.loop-done.done c.in_ok-taken.taken c.args.bytes.now c.loop-done.invariant.put (rw (rest_of c.loop-done.done c.args.bytes.now) at c.in_ok-taken.ensures.bytes);
  calm = c.in_ok-taken.ensures.cause.kept ∙ c.loop-done.invariant.calm;
}
