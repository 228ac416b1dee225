-- What a contract sees of a shard: its tablets, the moment at which its clock began, the steps that it has made, and the notes of what was refused.
use Rattle.std.specs.Prelude.{◌≡◌, List, [], ◌∷◌, ◌++◌}
use Rattle.shard_calls.specs.declared.event.Event.{Event}
use Rattle.shard_calls.specs.declared.event.Note.{Note}
use Rattle.shard_calls.specs.declared.event.Step.{Step}
use Rattle.shard_calls.specs.World.{Config, World, opening}
use Rattle.shard_calls.specs.Table.{Met, step_of, world_after}
use Rattle.shard_state.specs.State.{Data, config_in}

pub record Kept : Type 0 where
  pub config : Config
  pub steps : List Step
  pub notes : List Note

-- what is seen of fields, steps and notes
abbrev pub kept_of : Data → List Step → List Note → Kept
kept_of d steps notes = record { config = config_in d; steps = steps; notes = notes }

-- the world that the steps have led to
abbrev pub world_of : Kept → World
world_of k = world_after k.config (opening k.config) k.steps

-- one more step, by this event's row
pub record Makes (old new : Kept) (event : Event) : Type 0 where
  pub met : Met old.config (world_of old) event
  pub config : new.config ≡ old.config
  pub steps : new.steps ≡ old.steps ++ step_of old.config (world_of old) event ∷ []
  pub notes : new.notes ≡ old.notes
