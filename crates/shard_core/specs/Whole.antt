-- What the calls that read or change a shard's fields ask of them, gathered: whoever has a `Shard` has all of it of its fields.
use Rattle.std.specs.Prelude.{◌^◌}
use Rattle.shard_state.specs.State.{Data, config_in, seen, AreOfGroup}
use Rattle.arrivals.specs.Addressed.{KnowsTablets, AreAddressed}
use Rattle.arrivals.specs.Receivers.{OpenAreOfActors}
use Rattle.changes.specs.Few.{AreFew}
use Rattle.changes.specs.Sound.{AreSound, Fits}

-- The tablets know their shard, and the post knows them; messages are between declared tablets and such that their receivers can take
-- them; open commands are those that actors have open; numbers have room to grow; and there is room for the marks.
pub record IsWhole (d : Data) : Type 0 where
  pub group : AreOfGroup d
  pub known : KnowsTablets d
  pub addressed : AreAddressed d
  pub owned : OpenAreOfActors d
  pub few : AreFew (2 ^ 20) (seen d)
  pub sound : AreSound (config_in d) (seen d)
  pub fits : Fits d
