-- What a `Shard` keeps: fields to which its history has led, room in the history for what open commands owe, and notes in order of their places.
use Rattle.std.specs.Prelude.{◌≡◌, ◌≤◌, ◌+◌, length, vec_len, vec_capacity}
use Rattle.shard_state.specs.State.{data_of}
use Rattle.shard_core.specs.Leads.{Leads}
use Rattle.shard_core.specs.Notes.{AreInPlace}
use Rattle.shard_core.specs.Room.{owed_of}
use Rattle.shard_core.specs.declared.shard.Shard.TheInside.{Inside}

pub record Stands (s : Inside) : Type 0 where
  pub leads : Leads (data_of s.fields) s.history.steps.items
  pub owed : s.owed ≡ owed_of s.fields.commands.items
  pub room : vec_len s.history.steps + s.owed ≤ vec_capacity s.history.steps
  pub notes : AreInPlace s.history.steps.items s.history.notes.items
  pub few_notes : length s.history.notes.items ≤ 1000000
