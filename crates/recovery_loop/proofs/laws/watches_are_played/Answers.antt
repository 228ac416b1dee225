use Rattle.recovery_loop.proofs.WatchExampleProofs as examples
use Rattle.recovery_loop.proofs.laws.watches_are_played.Goals as goal

pub returns : goal.returns
returns c = record {
  primary_is_replaced = examples.primary_is_replaced;
  primary_is_elected = examples.primary_is_elected;
  replicas_are_repaired = examples.replicas_are_repaired;
  first_refusal_is_last = examples.first_refusal_is_last;
  lock_is_taken = examples.lock_is_taken;
  nothing_is_amiss = examples.nothing_is_amiss;
  waits_for_statuses = examples.waits_for_statuses;
}
