-- That a set which is written is read again, as it must be for a text that stands for it (MySQL 8.0 manual, GTID Format and Storage).
use Rattle.std.specs.Prelude.{◌≡◌, ◌≤◌, ◌<◌, List, length, All, Ok}
use Rattle.gtid_sets.specs.declared.interval.Interval.{Interval}
use Rattle.gtid_sets.specs.Intervals.{Ordered, position_of}
use Rattle.gtid_sets.specs.SetText.{set_text, position_text}
use Rattle.gtid_sets.specs.Reading.{set_reading, position_reading}

-- its server is a UUID, and its numbers are those of transactions
pub record IsWritable (x : Interval) : Type 0 where
  pub long : length x.server ≡ 16
  pub bytes : All (λ b. b < 256) x.server
  pub from_one : 1 ≤ x.first
  pub to_greatest : x.last ≤ 9223372036854775806

-- the text of a set spells the set
abbrev pub SetReadsBack : Type 0
SetReadsBack = (xs : List Interval) → Ordered xs → All IsWritable xs → set_reading (set_text (position_of xs)) ≡ Ok (position_of xs)

-- and so does that of a position
abbrev pub PositionReadsBack : Type 0
PositionReadsBack = (xs : List Interval) → Ordered xs → All IsWritable xs → position_reading (position_text (position_of xs)) ≡ Ok (position_of xs)
