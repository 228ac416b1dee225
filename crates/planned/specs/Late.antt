-- Calls that wait beyond all moments, which no row of a Send lets pass.
use Rattle.std.specs.Prelude.{ℕ, Bool, true, false, not, nat_lt}
use Rattle.shard_calls.specs.declared.call.Call.{Call}
use Rattle.shard_calls.specs.declared.call.Call.TheVariants as calls
use Rattle.shard_calls.specs.Deliveries.{end_of_time}

-- it waits until the year 10000, or beyond
abbrev pub is_late : Call → Bool
is_late calls.Status = false
is_late calls.Stop = false
is_late calls.Demote = false
is_late (calls.Promote p) = false
is_late (calls.SetSource source t p) = false
is_late calls.Feed = false
is_late (calls.WaitFor p until) = not (nat_lt until end_of_time)
is_late (calls.WaitTold until) = not (nat_lt until end_of_time)
