-- Numbers in decimal digits, and durations.
use Rattle.std.specs.Prelude.{ℕ, ◌+◌, ◌-◌, ◌*◌, ◌^◌, List, Bool, false, ◌&&◌, not, nat_le, nat_lt, Option, Some, None, is_some, if◌then◌else◌, length, take, drop, position, codes}
use Rattle.std.specs.Char.{is_ascii_digit}
use Rattle.std.specs.List.{list_all}
use Rattle.std.specs.Str.{bytes_eq}
use Rattle.std.specs.Str.Parse.{digits_value}
use Rattle.shard_base.specs.Options.{◌>>=◌, only_if}

-- one or more decimal digits with a value of 64 bits
unfoldable pub number_reading : List ℕ → Option ℕ
number_reading text =
    only_if (nat_le 1 (length text) && list_all is_ascii_digit text && nat_lt (digits_value 10 text) (2 ^ 64)) (digits_value 10 text)

-- a number with one more digit behind it, if that has 64 bits
abbrev pub with_digit : ℕ → ℕ → Option ℕ
with_digit n byte = only_if (is_ascii_digit byte && nat_lt (n * 10 + (byte - 48)) (2 ^ 64)) (n * 10 + (byte - 48))

-- a number that is neither below the least nor above the most
unfoldable pub number_within : ℕ → ℕ → List ℕ → Option ℕ
number_within least most text = do
  n ← number_reading text
  only_if (nat_le least n && nat_le n most) n

-- the milliseconds of a unit
abbrev pub unit_reading : List ℕ → Option ℕ
unit_reading text =
    if bytes_eq text (codes "ms") then Some 1
    else if bytes_eq text (codes "s") then Some 1000
    else if bytes_eq text (codes "m") then Some 60000
    else None

-- the place of the unit: of the first byte that is no digit
abbrev pub unit_place : List ℕ → Option ℕ
unit_place text = position (λ b. not (is_ascii_digit b)) text

-- so many units, if that is at most a day
abbrev pub within_a_day : ℕ → ℕ → Option ℕ
within_a_day n unit = only_if (nat_le (n * unit) 86400000) (n * unit)

-- 1 to 9 decimal digits and a unit, however long that is
abbrev pub is_duration : List ℕ → Bool
is_duration text =
    elim (unit_place text) [ None ↦ false | Some k ↦ nat_le k 9 && is_some (number_reading (take k text)) && is_some (unit_reading (drop k text)) ]

-- The milliseconds of a duration: 1 to 9 decimal digits and a unit, at most a day in all.
unfoldable pub duration_reading : List ℕ → Option ℕ
duration_reading text =
    unit_place text >>= (λ k. if nat_le k 9 then (do
      n ← number_reading (take k text)
      unit ← unit_reading (drop k text)
      within_a_day n unit) else None)
