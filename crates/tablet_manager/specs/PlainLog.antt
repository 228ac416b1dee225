-- What a plain log keeps beside its entries: their position, the terms of the rows, and the greatest of them with its index.
use Rattle.std.specs.Prelude.{◌≡◌}
use Rattle.gtid_sets.specs.Logs.{position_of, newest_row, place_of_row, rows_of}
use Rattle.tablet_manager.specs.LogState.{LogState}
use Rattle.tablet_manager.specs.declared.plain_log.PlainLog.TheInside.{Inside}

abbrev pub state_of : Inside → LogState
state_of a = record { entries = a.entries.items; seen = a.seen; promised = a.promised }

pub record IsKept (a : Inside) : Type 0 where
  pub held : a.held ≡ position_of a.entries.items
  pub rows : a.rows.items ≡ rows_of a.entries.items
  pub newest : a.newest ≡ newest_row a.entries.items
  pub place : a.newest_at ≡ place_of_row a.entries.items (newest_row a.entries.items)
