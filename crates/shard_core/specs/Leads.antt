-- The kept history is a run, and has led to the world that the fields stand for.
use Rattle.std.specs.Prelude.{◌≡◌, ◌≤◌, IsTrue, nat_lt, List, length}
use Rattle.shard_calls.specs.declared.event.Step.{Step}
use Rattle.shard_calls.specs.World.{IsConfig, opening}
use Rattle.shard_calls.specs.Table.{IsRun, world_after}
use Rattle.shard_state.specs.State.{Data, config_in, seen, world_seen}
use Rattle.changes.specs.Few.{AreFew}
use Rattle.changes.specs.Sound.{AreSound, Fits}

pub record Leads (d : Data) (steps : List Step) : Type 0 where
  pub config : IsConfig (config_in d)
  -- the clock begins before the year 9999
  pub begins : IsTrue (nat_lt d.moment 253370764800000)
  pub run : IsRun (config_in d) steps
  pub world : world_seen d steps ≡ world_after (config_in d) (opening (config_in d)) steps
  pub few : AreFew (length steps) (seen d)
  pub sound : AreSound (config_in d) (seen d)
  pub fits : Fits d
  pub room : length steps ≤ 1000000
