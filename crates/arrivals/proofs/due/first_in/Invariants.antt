use Rattle.std.proofs.Common.{◌≡◌, drop}
use Rattle.std.specs.List.{find}
use Rattle.shard_state.specs.State.{data_of}
use Rattle.arrivals.specs.Ways.{is_due_at}
use Rattle.arrivals.proofs.due.first_in.Given as goal

abbrev pub invariant-loop-at : goal.invariant-loop-at
invariant-loop-at l = find (is_due_at (data_of l.fields)) l.queue ≡ find (is_due_at (data_of l.fields)) (drop l.at l.queue)
