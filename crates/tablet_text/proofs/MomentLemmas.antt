-- The days of the definitions are those of the kit's calendar.
use Rattle.std.proofs.Common.{◌≡◌, ℕ, zero, suc, ◌+◌, ◌<◌, ◌≤◌, Bool, true, false, cond, nat_lt, refl, sym, ap, ◌∙◌, arith, ℤ, pos, to_z, of_z, w16, FitsSigned}
use Rattle.std.proofs.lemmas.Bool.Decides.{nat_tests}
use Rattle.std.proofs.lemmas.Int.{by_lt_z, to_z-of_z}
use Rattle.jiff_core.specs.declared.civil.date.Date.{Date}
use Rattle.jiff_core.specs.Calendar.{days_in_month, days_from_civil}
use Rattle.jiff_core.specs.Date.{epoch_day}
use Rattle.jiff_core.proofs.SignedLemmas.{signed_arith}
use Rattle.jiff_core.proofs.StandardFacts.{known_days}
use Rattle.jiff_core.proofs.CalendarLemmas.{days_from_civil-day_count, day_count-lt_year, days_in_month_bounds}
use Rattle.jiff_core.proofs.DateLemmas.{civil, epoch_day_injective, days_from_civil-day, days_from_civil-next_month, days_from_civil-next_year}
use Rattle.tablet_text.specs.Moments.{Day, next_day, day_at}

-- a day of the calendar, n days after the first of 1970
pub record IsDay (n : ℕ) (d : Day) : Type 0 where
  pub month : (1 ≤ d.month) × (d.month ≤ 12)
  pub day : (1 ≤ d.day) × (d.day ≤ days_in_month (pos d.year) d.month)
  pub number : days_from_civil (pos d.year) d.month d.day ≡ pos n

chosen : {A : Type 0} (P : A → Type 0) (b : Bool) (v w : A) → (b ≡ true → P v) → (b ≡ false → P w) → P (cond b v w)
chosen P true v w one two = one refl
chosen P false v w one two = two refl

in_month : (n : ℕ) (d : Day) → IsDay n d → nat_lt d.day (days_in_month (pos d.year) d.month) ≡ true
    → IsDay (suc n) (record { year = d.year; month = d.month; day = d.day + 1 })
in_month n d h is =
    let less : d.day < days_in_month (pos d.year) d.month = grind (arith, nat_tests) in
    let same = days_from_civil-day (pos d.year) d.month d.day (d.day + 1) h.day.0 (omega arith) in
    let before = h.number in
    record { month = h.month; day = (omega arith, omega arith); number = omega (arith, signed_arith) }

next_month : (n : ℕ) (d : Day) → IsDay n d → nat_lt d.day (days_in_month (pos d.year) d.month) ≡ false → nat_lt d.month 12 ≡ true
    → IsDay (suc n) (record { year = d.year; month = d.month + 1; day = 1 })
next_month n d h is before_last =
    let not_less : days_in_month (pos d.year) d.month ≤ d.day = grind (arith, nat_tests) in
    let less : d.month < 12 = grind (arith, nat_tests) in
    let last : d.day ≡ days_in_month (pos d.year) d.month = omega (arith, h.day.1) in
    let after = days_from_civil-next_month (pos d.year) d.month d.day h.month.0 last in
    let long = days_in_month_bounds (pos d.year) (d.month + 1) in
    let before = h.number in
    record { month = (omega arith, omega arith); day = (omega arith, omega arith); number = omega (arith, signed_arith) }

next_year : (n : ℕ) (d : Day) → IsDay n d → nat_lt d.day (days_in_month (pos d.year) d.month) ≡ false → nat_lt d.month 12 ≡ false
    → IsDay (suc n) (record { year = d.year + 1; month = 1; day = 1 })
next_year n d h is before_last =
    let not_less : days_in_month (pos d.year) d.month ≤ d.day = grind (arith, nat_tests) in
    let at_last : 12 ≤ d.month = grind (arith, nat_tests) in
    let december : d.month ≡ 12 = omega (arith, h.month.1) in
    let last : d.day ≡ days_in_month (pos d.year) d.month = omega (arith, h.day.1) in
    let end : d.day ≡ 31 = last ∙ ap (λ (m : ℕ). days_in_month (pos d.year) m) december in
    let before : days_from_civil (pos d.year) 12 31 ≡ pos n = rw (december, end) at h.number in
    let after = days_from_civil-next_year (pos d.year) (pos (d.year + 1)) (omega (arith, signed_arith)) (omega (arith, signed_arith)) in
    record { month = (omega arith, omega arith); day = (omega arith, omega arith); number = omega (arith, signed_arith) }

next_is : (n : ℕ) (d : Day) → IsDay n d → IsDay (suc n) (next_day d)
next_is n d h =
    chosen (IsDay (suc n)) (nat_lt d.day (days_in_month (pos d.year) d.month)) _ _ (in_month n d h)
    (λ no_more. chosen (IsDay (suc n)) (nat_lt d.month 12) _ _ (next_month n d h no_more) (next_year n d h no_more))

day_at_is : (n : ℕ) → IsDay n (day_at n)
unfolding day_at
day_at_is zero = record { month = (omega arith, omega arith); day = (omega arith, omega arith); number = known_days.0 }
day_at_is (suc n) = next_is n (day_at n) (day_at_is n)

abbrev pub IsSame : Date → Day → Type 0
IsSame d x = (d.year ≡ pos x.year) × (d.month ≡ x.month) × (d.day ≡ x.day)

same_day : (d : Date) (n : ℕ) (x : Day) → IsDay n x → epoch_day d ≡ pos n → IsSame d x
same_day d n x h e =
    by_lt_z (pos 9999) (pos x.year)
    (λ lt. let later = day_count-lt_year d.year d.month d.day (pos x.year) x.month x.day (civil d) h.day.0 (omega (arith, signed_arith, d.year_in)) in
    let there = h.number in
    absurd (omega (arith, signed_arith, days_from_civil-day_count)))
    (λ le. let other : Date = record { year = pos x.year; month = x.month; day = x.day; year_in = (omega (arith, signed_arith), le); month_in = h.month; day_in = h.day } in
    epoch_day_injective d other (e ∙ sym h.number))

-- a date of the kit's with this day number is the day so many days after the first of 1970
pub date_is : (d : Date) (n : ℕ) → epoch_day d ≡ pos n → IsSame d (day_at n)
date_is d n e = same_day d n (day_at n) (day_at_is n) e

-- it lies in the years that have four digits
pub year_within : (d : Date) (k : ℕ) → d.year ≡ pos k → k ≤ 9999
year_within d k e = omega (arith, signed_arith, d.year_in)

-- the year in 16 bits and back
pub year_back : (y : ℤ) (k : ℕ) → y ≡ pos k → k ≤ 9999 → to_z w16 (of_z w16 y) ≡ pos k
year_back y k e low =
    let fits : FitsSigned w16 y = omega (arith, signed_arith) in
    to_z-of_z w16 y fits ∙ e
