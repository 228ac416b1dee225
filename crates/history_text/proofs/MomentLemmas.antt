-- A text of a moment is that of no other one.
use Rattle.std.proofs.Common.{◌≡◌, ℕ, zero, suc, ◌+◌, ◌-◌, ◌*◌, ◌/◌, ◌%◌, ◌<◌, ◌≤◌, Bool, true, false, cond, nat_lt, refl, sym, ap, ◌∙◌, arith, List, take, drop, get_or, pos}
use Rattle.std.specs.Prelude.{if◌then◌else◌}
use Rattle.std.specs.Str.{bytes_eq}
use Rattle.std.proofs.lemmas.Slice.Eq.{bytes_eq-Decides}
use Rattle.std.proofs.lemmas.Bool.{false≢true}
use Rattle.std.proofs.lemmas.Bool.Decides.{nat_tests}
use Rattle.jiff_core.specs.Calendar.{days_in_month}
use Rattle.jiff_core.proofs.CalendarLemmas.{days_in_month_bounds}
use Rattle.tablet_text.specs.Moments.{Day, next_day, day_at, two_digits, three_digits, four_digits, date_text, time_text, text_within, moment_text}
use Rattle.history_text.specs.Told.{IsMoment}
use Rattle.history_text.proofs.LineLemmas.{chosen}

-- ---- days

-- a day so many days after the first of 1970, as far as lengths of months of 28 to 31 days say
record Fits (n : ℕ) (d : Day) : Type 0 where
  month : (1 ≤ d.month) × (d.month ≤ 12)
  day : (1 ≤ d.day) × (d.day ≤ 31)
  months : (d.year * 12 + d.month) * 28 + d.day ≤ n + 661949

-- a number that rises with the days
abbrev rank : Day → ℕ
rank d = (d.year * 12 + d.month) * 31 + d.day

record Next (n : ℕ) (d e : Day) : Type 0 where
  fits : Fits (suc n) e
  rises : rank d < rank e

next : (n : ℕ) (d : Day) → Fits n d → Next n d (next_day d)
next n d h =
    let long = days_in_month_bounds (pos d.year) d.month in
    chosen (Next n d) (nat_lt d.day (days_in_month (pos d.year) d.month)) _ _
    (λ t. let less : d.day < days_in_month (pos d.year) d.month = grind (arith, nat_tests) in
    record { fits = record { month = h.month; day = (omega arith, omega (arith, long, less)); months = omega (arith, h.months) }; rises = omega arith })
    (λ t. let last : days_in_month (pos d.year) d.month ≤ d.day = grind (arith, nat_tests) in
    chosen (Next n d) (nat_lt d.month 12) _ _
    (λ u. let less : d.month < 12 = grind (arith, nat_tests) in
    record { fits = record { month = (omega arith, omega arith); day = (omega arith, omega arith); months = omega (arith, h.months, long, last) }; rises = omega (arith, h.day.1) })
    (λ u. let least : 12 ≤ d.month = grind (arith, nat_tests) in
    record {
      fits = record { month = (omega arith, omega arith); day = (omega arith, omega arith); months = omega (arith, h.months, long, last, least, h.month.1) };
      rises = omega (arith, h.day.1, least, h.month.1);
    }))

day_fits : (n : ℕ) → Fits n (day_at n)
unfolding day_at
day_fits zero = record { month = (omega arith, omega arith); day = (omega arith, omega arith); months = omega arith }
day_fits (suc n) = (next n (day_at n) (day_fits n)).fits

later : (n k j : ℕ) → j ≡ k + n → rank (day_at n) + k ≤ rank (day_at j)
unfolding day_at
later n zero j e =
    let at : j ≡ n = omega (arith, e) in
    let same : rank (day_at j) ≡ rank (day_at n) = ap (λ (i : ℕ). rank (day_at i)) at in
    omega (arith, same)
later n (suc k) j e =
    let at : j ≡ suc (k + n) = omega (arith, e) in
    let same : rank (day_at j) ≡ rank (next_day (day_at (k + n))) = ap (λ (i : ℕ). rank (day_at i)) at in
    let before = later n k (k + n) refl in
    let step = (next (k + n) (day_at (k + n)) (day_fits (k + n))).rises in
    omega (arith, before, step, same)

not_later : (m n : ℕ) → day_at m ≡ day_at n → m ≤ n
not_later m n e = by_test (nat_lt n m) refl
  where
    by_test : (t : Bool) → nat_lt n m ≡ t → m ≤ n
    by_test true h =
        let more : n < m = grind (arith, nat_tests) in
        let rise = later n (m - n) m (omega (arith, more)) in
        let same : rank (day_at m) ≡ rank (day_at n) = ap rank e in
        absurd (omega (arith, rise, same, more))
    by_test false h = grind (arith, nat_tests)

day_told : (m n : ℕ) → day_at m ≡ day_at n → m ≡ n
day_told m n e = let one = not_later m n e in let two = not_later n m (sym e) in omega arith

-- ---- digits

two_told : (x y : ℕ) → x < 100 → y < 100 → two_digits x ≡ two_digits y → x ≡ y
two_told x y lx ly e =
    let e0 = ap (λ (t : List ℕ). get_or t 0 0) e in
    let e1 = ap (λ (t : List ℕ). get_or t 1 0) e in
    omega (arith, e0, e1)

three_told : (x y : ℕ) → x < 1000 → y < 1000 → three_digits x ≡ three_digits y → x ≡ y
three_told x y lx ly e =
    let e0 = ap (λ (t : List ℕ). get_or t 0 0) e in
    let e1 = ap (λ (t : List ℕ). get_or t 1 0) e in
    let e2 = ap (λ (t : List ℕ). get_or t 2 0) e in
    omega (arith, e0, e1, e2)

four_told : (x y : ℕ) → x < 10000 → y < 10000 → four_digits x ≡ four_digits y → x ≡ y
four_told x y lx ly e =
    let e0 = ap (λ (t : List ℕ). get_or t 0 0) e in
    let e1 = ap (λ (t : List ℕ). get_or t 1 0) e in
    let e2 = ap (λ (t : List ℕ). get_or t 2 0) e in
    let e3 = ap (λ (t : List ℕ). get_or t 3 0) e in
    omega (arith, e0, e1, e2, e3)

-- ---- moments

abbrev day_of : ℕ → Day
day_of m = day_at (m / 86400000)

same_day : (c d : Day) → c.year ≡ d.year → c.month ≡ d.month → c.day ≡ d.day → c ≡ d
same_day c d one two three = rw (one, two, three) refl

year_short : (m : ℕ) → IsMoment m → (day_of m).year < 10000
year_short m h =
    let fits = (day_fits (m / 86400000)).months in
    let days : m / 86400000 < 2677228 = omega (arith, h) in
    omega (arith, fits, days)

text_is : (m : ℕ) → IsMoment m → moment_text m ≡ text_within m
unfolding moment_text
text_is m h = ap text_within (omega (arith, h))

within_told : (m n : ℕ) → IsMoment m → IsMoment n → text_within m ≡ text_within n → m ≡ n
unfolding text_within date_text time_text
within_told m n hm hn e =
    let fm = day_fits (m / 86400000) in
    let fn = day_fits (n / 86400000) in
    let year = four_told (day_of m).year (day_of n).year (year_short m hm) (year_short n hn) (ap (take 4) e) in
    let month = two_told (day_of m).month (day_of n).month (omega (arith, fm.month)) (omega (arith, fn.month)) (ap (λ (t : List ℕ). take 2 (drop 5 t)) e) in
    let day = two_told (day_of m).day (day_of n).day (omega (arith, fm.day)) (omega (arith, fn.day)) (ap (λ (t : List ℕ). take 2 (drop 8 t)) e) in
    let days = day_told (m / 86400000) (n / 86400000) (same_day (day_of m) (day_of n) year month day) in
    let hours = two_told (m % 86400000 / 3600000) (n % 86400000 / 3600000) (omega arith) (omega arith) (ap (λ (t : List ℕ). take 2 (drop 11 t)) e) in
    let minutes = two_told (m % 86400000 / 60000 % 60) (n % 86400000 / 60000 % 60) (omega arith) (omega arith) (ap (λ (t : List ℕ). take 2 (drop 14 t)) e) in
    let seconds = two_told (m % 86400000 / 1000 % 60) (n % 86400000 / 1000 % 60) (omega arith) (omega arith) (ap (λ (t : List ℕ). take 2 (drop 17 t)) e) in
    let rest = three_told (m % 86400000 % 1000) (n % 86400000 % 1000) (omega arith) (omega arith) (ap (λ (t : List ℕ). take 3 (drop 20 t)) e) in
    together m n days (time_told (m % 86400000) (n % 86400000) hours minutes seconds rest)
  where
    time_told : (x y : ℕ) → x / 3600000 ≡ y / 3600000 → x / 60000 % 60 ≡ y / 60000 % 60 → x / 1000 % 60 ≡ y / 1000 % 60 → x % 1000 ≡ y % 1000 → x ≡ y
    time_told x y one two three four = omega (arith, one, two, three, four)

    together : (x y : ℕ) → x / 86400000 ≡ y / 86400000 → x % 86400000 ≡ y % 86400000 → x ≡ y
    together x y one two = omega (arith, one, two)

moment_told : (m n : ℕ) → IsMoment m → IsMoment n → moment_text m ≡ moment_text n → m ≡ n
moment_told m n hm hn e = within_told m n hm hn (sym (text_is m hm) ∙ e ∙ text_is n hn)

-- ---- back

-- the moment below this one that has the text
abbrev pub moment_below : ℕ → List ℕ → ℕ
moment_below zero text = 0
moment_below (suc k) text = if bytes_eq (moment_text k) text then k else moment_below k text

unfoldable pub moments_end : ℕ
moments_end = 231312499200000

abbrev pub moment_of : List ℕ → ℕ
moment_of text = moment_below moments_end text

below : (k m : ℕ) → m < suc k → bytes_eq (moment_text k) (moment_text m) ≡ false → m < k
below k m h e = by_order (nat_lt m k) refl
  where
    by_order : (t : Bool) → nat_lt m k ≡ t → m < k
    by_order true lt = grind (arith, nat_tests)
    by_order false not_less =
        let least : k ≤ m = grind (arith, nat_tests) in
        let equal : k ≡ m = omega (arith, h) in
        absurd (false≢true (sym e ∙ (bytes_eq-Decides (moment_text k) (moment_text m)).1 (ap moment_text equal)))

below_back : (k m : ℕ) → m < k → ((n : ℕ) → n < k → moment_text n ≡ moment_text m → n ≡ m) → moment_below k (moment_text m) ≡ m
below_back zero m h told = absurd (omega (arith, h))
below_back (suc k) m h told = by_test (bytes_eq (moment_text k) (moment_text m)) refl (below_back k m)
  where
    by_test : (t : Bool) → bytes_eq (moment_text k) (moment_text m) ≡ t
        → (m < k → ((n : ℕ) → n < k → moment_text n ≡ moment_text m → n ≡ m) → moment_below k (moment_text m) ≡ m)
        → cond t k (moment_below k (moment_text m)) ≡ m
    by_test true e more = told k (omega arith) ((bytes_eq-Decides (moment_text k) (moment_text m)).0 e)
    by_test false e more = more (below k m h e) (λ n lt. told n (omega arith))

pub moment_back : (m : ℕ) → IsMoment m → moment_of (moment_text m) ≡ m
unfolding moments_end
moment_back m h = below_back 231312499200000 m h (λ n lt e. moment_told n m lt h e)
