-- The text of a moment, in the format of ISO 8601 with milliseconds. The calendar is the Gregorian one, and days have no leap seconds.
use Rattle.std.specs.Prelude.{ℕ, zero, suc, ◌+◌, ◌/◌, ◌%◌, List, [], ◌∷◌, ◌++◌, codes, if◌then◌else◌, nat_lt, min, pos}
use Rattle.jiff_core.specs.Calendar.{days_in_month}

pub record Day : Type 0 where
  pub year : ℕ
  pub month : ℕ
  pub day : ℕ

-- the day after it: in its month, or else the first of the next month, or else the first of the next year
abbrev pub next_day : Day → Day
next_day d =
    if nat_lt d.day (days_in_month (pos d.year) d.month) then record { year = d.year; month = d.month; day = d.day + 1 }
    else if nat_lt d.month 12 then record { year = d.year; month = d.month + 1; day = 1 }
    else record { year = d.year + 1; month = 1; day = 1 }

-- the day so many days after the first of 1970
unfoldable pub day_at : ℕ → Day
day_at zero = record { year = 1970; month = 1; day = 1 }
day_at (suc n) = next_day (day_at n)

-- the last digit in ASCII
abbrev pub digit : ℕ → ℕ
digit n = 48 + n % 10

abbrev pub two_digits : ℕ → List ℕ
two_digits n = digit (n / 10) ∷ digit n ∷ []

abbrev pub three_digits : ℕ → List ℕ
three_digits n = digit (n / 100) ∷ two_digits n

abbrev pub four_digits : ℕ → List ℕ
four_digits n = digit (n / 1000) ∷ three_digits n

-- YYYY-MM-DD
unfoldable pub date_text : Day → List ℕ
date_text d = four_digits d.year ++ codes "-" ++ two_digits d.month ++ codes "-" ++ two_digits d.day

-- HH:MM:SS.mmm, of the milliseconds since midnight, each hour of 3,600,000 and each minute of 60,000
unfoldable pub time_text : ℕ → List ℕ
time_text n = two_digits (n / 3600000) ++ codes ":" ++ two_digits (n / 60000 % 60) ++ codes ":" ++ two_digits (n / 1000 % 60) ++ codes "." ++ three_digits (n % 1000)

-- The last millisecond of the year 9999, with which years of four digits end. No tick brings a clock so far, and a later moment is printed
-- as this one.
abbrev pub last_moment : ℕ
last_moment = 253402300799999

-- the text of a moment up to the last one: a day has 86,400,000 milliseconds
unfoldable pub text_within : ℕ → List ℕ
text_within m = date_text (day_at (m / 86400000)) ++ codes "T" ++ time_text (m % 86400000) ++ codes "Z"

-- of milliseconds since the start of 1970
unfoldable pub moment_text : ℕ → List ℕ
moment_text m = text_within (min m last_moment)
