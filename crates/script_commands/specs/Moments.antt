-- Moments in the format of ISO 8601, in the Gregorian calendar and without leap seconds.
use Rattle.std.specs.Prelude.{ℕ, ◌+◌, ◌*◌, List, [], ◌∷◌, ◌==◌, Bool, true, false, ◌&&◌, ◌||◌, nat_le, nat_lt, Option, unwrap_or, if◌then◌else◌, take, drop, length, codes, pos, unsigned_abs}
use Rattle.std.specs.Char.{is_ascii_digit}
use Rattle.jiff_core.specs.Calendar.{days_in_month, days_from_civil}
use Rattle.shard_base.specs.Options.{only_if}
use Rattle.script_commands.specs.Numbers.{number_within}

-- a digit where the pattern has `0`, and else the pattern's own byte
abbrev pub fits_byte : ℕ → ℕ → Bool
fits_byte p b = if p == 48 then is_ascii_digit b else b == p

abbrev pub fits_pattern : List ℕ → List ℕ → Bool
fits_pattern [] [] = true
fits_pattern [] (b ∷ bs) = false
fits_pattern (p ∷ ps) [] = false
fits_pattern (p ∷ ps) (b ∷ bs) = fits_byte p b && fits_pattern ps bs

-- with or without milliseconds
abbrev pub has_form : List ℕ → Bool
has_form text = fits_pattern (codes "0000-00-00T00:00:00Z") text || fits_pattern (codes "0000-00-00T00:00:00.000Z") text

-- the number that so many digits from this place stand for, at most four
unfoldable pub part : ℕ → ℕ → List ℕ → ℕ
part place count text = unwrap_or (number_within 0 9999 (take count (drop place text))) 0

-- the milliseconds, where they are written
unfoldable pub milliseconds_of : List ℕ → ℕ
milliseconds_of text = if length text == 24 then part 20 3 text else 0

-- the calendar has the day
abbrev pub is_day : ℕ → ℕ → ℕ → Bool
is_day year month day = nat_le 1 month && nat_le month 12 && nat_le 1 day && nat_le day (days_in_month (pos year) month)

-- the day has the time
abbrev pub is_time : ℕ → ℕ → ℕ → Bool
is_time hour minute second = nat_lt hour 24 && nat_lt minute 60 && nat_lt second 60

-- a moment in the years from 0 to 9999
unfoldable pub is_moment : List ℕ → Bool
is_moment text = has_form text && is_day (part 0 4 text) (part 5 2 text) (part 8 2 text) && is_time (part 11 2 text) (part 14 2 text) (part 17 2 text)

-- the milliseconds from the start of 1970 to the start of a day
unfoldable pub start_of_day : ℕ → ℕ → ℕ → ℕ
start_of_day year month day = unsigned_abs (days_from_civil (pos year) month day) * 86400000

-- the milliseconds from the start of a day
unfoldable pub time_of_day : List ℕ → ℕ
time_of_day text = part 11 2 text * 3600000 + part 14 2 text * 60000 + part 17 2 text * 1000 + milliseconds_of text

-- the milliseconds since the start of 1970, of a moment from then on
unfoldable pub milliseconds_since_1970 : List ℕ → ℕ
milliseconds_since_1970 text = start_of_day (part 0 4 text) (part 5 2 text) (part 8 2 text) + time_of_day text

-- a clock begins in the years from 1970 to 9000: before the start of 9001
abbrev pub is_of_clock : ℕ → ℕ → Bool
is_of_clock year milliseconds = nat_le 1970 year && nat_lt milliseconds 221876928000000

-- The milliseconds since the start of 1970 of a moment with which a clock may begin.
unfoldable pub moment_reading : List ℕ → Option ℕ
moment_reading text =
    only_if (is_moment text && is_of_clock (part 0 4 text) (milliseconds_since_1970 text)) (milliseconds_since_1970 text)
