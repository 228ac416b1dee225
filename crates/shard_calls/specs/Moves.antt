-- What may happen to a tablet, whatever it keeps its state in. After the tablet manager of Vitess (Vitess manual) and replication (MySQL 8.0 manual).
use Rattle.std.specs.Prelude.{◌≡◌, ◌≤◌, ℕ, ◌+◌, true, false, List, ⊤, None}
use Rattle.shard_names.specs.declared.alias.Alias.{Alias}
use Rattle.shard_names.specs.declared.tablet.Tablet.{Tablet}
use Rattle.gtid_sets.specs.declared.entry.Entry.{Entry}
use Rattle.gtid_sets.specs.declared.entry.Kind.{Kind}
use Rattle.gtid_sets.specs.Position.{Position, covers}
use Rattle.shard_calls.specs.declared.stand.Stand.{Stand}
use Rattle.shard_calls.specs.declared.stand.Stand.TheVariants as stand
use Rattle.shard_calls.specs.Stands.{waits_for}
use Rattle.gtid_sets.specs.Logs.{position_of, with_entry, with_own, row_term, row_or_zero, has_row, newest_row}
use Rattle.replication.specs.Acks.{Acked, none_acked}
use Rattle.shard_calls.specs.Tablets.{TabletState, with_row}

-- A stand that a promise of this term leads to, with this log: demoted is the primary of the newest row, and a replica begins with the first entry.
abbrev pub ComesOfPromise : List Entry → ℕ → Stand → Type 0
ComesOfPromise log promised stand.Down = ⊥
ComesOfPromise log promised stand.Stopped = ⊤
ComesOfPromise log promised (stand.Primary t) = ⊥
ComesOfPromise log promised (stand.Demoted t by) = (by ≡ promised) × (t ≡ newest_row log)
ComesOfPromise log promised (stand.Replica source t next) = (t ≡ promised) × (next ≡ 1)
ComesOfPromise log promised (stand.Feeder t) = t ≡ promised

pub data TabletMove : TabletState → TabletState → Type 0 where
  Stays : {s : TabletState} → TabletMove s s
  -- a later term is seen
  Sees : {s : TabletState} (seen : ℕ) → s.seen ≤ seen → TabletMove s (record s { seen = seen })
  -- a term is promised, and the tablet stands as that term asks
  Promises : {s : TabletState} (seen promised : ℕ) (to : Stand) → s.seen ≤ seen → s.promised ≤ promised → promised ≤ seen → ComesOfPromise s.log promised to
      → TabletMove s (record s { seen = seen; promised = promised; stand = to })
  -- the row of a term enters a log that has none of it and covers the position asked for
  Enters : {s : TabletState} (me : Tablet) (term : ℕ) (position : Position) → s.seen ≤ term → s.promised ≤ term → has_row s.log term ≡ false
      → covers (position_of s.log) position ≡ true → TabletMove s (with_row me term (record s { seen = term }))
  -- the entry that a replica waits for comes from its source, whose rows are of its term at most
  Takes : {s : TabletState} (source : Alias) (term before index : ℕ) (e : Entry) → s.stand ≡ stand.Replica source term before → row_or_zero e ≤ term
      → TabletMove s (record s { log = with_entry s.log e; stand = waits_for s.stand (index + 1) })
  -- an entry of the tablet's own that is no row
  Writes : {s : TabletState} (me : Tablet) (k : Kind) → row_term k ≡ None → TabletMove s (record s { log = with_own me k s.log })
  -- what other tablets acknowledge
  Hears : {s : TabletState} (acked : Acked) → TabletMove s (record s { acked = acked })
  GoesDown : {s : TabletState} → TabletMove s (record s { stand = stand.Down })
  ComesUp : {s : TabletState} → TabletMove s (record s { stand = stand.Stopped; acked = none_acked })

-- any number of moves
pub data TabletMoves : TabletState → TabletState → Type 0 where
  Rests : {s : TabletState} → TabletMoves s s
  Goes : {s t u : TabletState} → TabletMoves s t → TabletMove t u → TabletMoves s u
