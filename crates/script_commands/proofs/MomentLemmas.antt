-- The form of a moment, and the bounds of its parts.
use Rattle.std.proofs.Common.{◌≡◌, ℕ, suc, ◌<◌, ◌≤◌, List, [], ◌∷◌, Bool, true, false, ◌&&◌, ◌||◌, Option, Some, None, length, refl, subst, ap, arith, pos}
use Rattle.std.specs.Prelude.{nat_le, nat_lt, unwrap_or, codes}
use Rattle.std.proofs.lemmas.Bool.{false≢true}
use Rattle.std.proofs.lemmas.Bool.Decides.{nat_tests}
use Rattle.jiff_core.specs.Calendar.{days_in_month}
use Rattle.script_commands.specs.Moments.{fits_byte, fits_pattern, has_form, part, is_day, is_time, is_moment, milliseconds_since_1970, is_of_clock, moment_reading}
use Rattle.script_commands.specs.Numbers.{number_within}
use Rattle.script_commands.proofs.OptionLemmas.{only_if_some, and_both}
use Rattle.script_commands.proofs.NumberLemmas.{within_of}

pattern_length : (ps bs : List ℕ) → fits_pattern ps bs ≡ true → length bs ≡ length ps
pattern_length [] [] h = refl
pattern_length [] (b ∷ bs) h = absurd (false≢true h)
pattern_length (p ∷ ps) [] h = absurd (false≢true h)
pattern_length (p ∷ ps) (b ∷ bs) h =
    let rest = and_both (fits_byte p b) (fits_pattern ps bs) h in
    ap (λ (n : ℕ). suc n) (pattern_length ps bs rest.1)

long_by : (text : List ℕ) (a b : Bool) → (a ≡ true → 20 ≤ length text) → (b ≡ true → 20 ≤ length text) → (a || b) ≡ true → 20 ≤ length text
long_by text true b one two h = one refl
long_by text false b one two h = two h

-- a text in the form of a moment has 20 bytes at least
pub form_long : (text : List ℕ) → has_form text ≡ true → 20 ≤ length text
form_long text h =
    long_by text (fits_pattern (codes "0000-00-00T00:00:00Z") text) (fits_pattern (codes "0000-00-00T00:00:00.000Z") text)
    (λ is. let size : length text ≡ 20 = pattern_length (codes "0000-00-00T00:00:00Z") text is in omega arith)
    (λ is. let size : length text ≡ 24 = pattern_length (codes "0000-00-00T00:00:00.000Z") text is in omega arith)
    h

pub part_small : (text : List ℕ) → unwrap_or (number_within 0 9999 text) 0 < 10000
part_small text = by_number (number_within 0 9999 text) refl
  where
    by_number : (o : Option ℕ) → number_within 0 9999 text ≡ o → unwrap_or o 0 < 10000
    by_number None is = omega arith
    by_number (Some n) is = let most : n ≤ 9999 = (within_of 0 9999 text n is).to_most in omega arith

-- what a moment has
pub record Parts (text : List ℕ) : Type 0 where
  pub long : 20 ≤ length text
  pub month : (1 ≤ part 5 2 text) × (part 5 2 text ≤ 12)
  pub day : (1 ≤ part 8 2 text) × (part 8 2 text ≤ days_in_month (pos (part 0 4 text)) (part 5 2 text))

pub parts_of_moment : (text : List ℕ) → is_moment text ≡ true → Parts text
unfolding is_moment
parts_of_moment text h =
    let timed = and_both (has_form text && is_day (part 0 4 text) (part 5 2 text) (part 8 2 text)) (is_time (part 11 2 text) (part 14 2 text) (part 17 2 text)) h in
    let dated = and_both (has_form text) (is_day (part 0 4 text) (part 5 2 text) (part 8 2 text)) timed.0 in
    let day_high = and_both (nat_le 1 (part 5 2 text) && nat_le (part 5 2 text) 12 && nat_le 1 (part 8 2 text)) (nat_le (part 8 2 text) (days_in_month (pos (part 0 4 text)) (part 5 2 text))) dated.1 in
    let day_low = and_both (nat_le 1 (part 5 2 text) && nat_le (part 5 2 text) 12) (nat_le 1 (part 8 2 text)) day_high.0 in
    let months = and_both (nat_le 1 (part 5 2 text)) (nat_le (part 5 2 text) 12) day_low.0 in
    let m1 : nat_le 1 (part 5 2 text) ≡ true = months.0 in
    let m2 : nat_le (part 5 2 text) 12 ≡ true = months.1 in
    let d1 : nat_le 1 (part 8 2 text) ≡ true = day_low.1 in
    let d2 : nat_le (part 8 2 text) (days_in_month (pos (part 0 4 text)) (part 5 2 text)) ≡ true = day_high.1 in
    record {
      long = form_long text dated.0;
      month = (grind (arith, nat_tests), grind (arith, nat_tests));
      day = (grind (arith, nat_tests), low_or (part 8 2 text) (days_in_month (pos (part 0 4 text)) (part 5 2 text)) d2);
    }
  where
    low_or : (a b : ℕ) → nat_le a b ≡ true → a ≤ b
    low_or a b is = grind (arith, nat_tests)

-- a clock begins before the year 9001
pub moment_bound : (text : List ℕ) (m : ℕ) → moment_reading text ≡ Some m → m < 221876928000000
unfolding moment_reading
moment_bound text m h =
    let p = only_if_some (is_moment text && is_of_clock (part 0 4 text) (milliseconds_since_1970 text)) (milliseconds_since_1970 text) m h in
    let q = and_both (is_moment text) (is_of_clock (part 0 4 text) (milliseconds_since_1970 text)) p.0 in
    let r = and_both (nat_le 1970 (part 0 4 text)) (nat_lt (milliseconds_since_1970 text) 221876928000000) q.1 in
    subst (λ (k : ℕ). k < 221876928000000) p.1 (below (milliseconds_since_1970 text) r.1)
  where
    below : (n : ℕ) → nat_lt n 221876928000000 ≡ true → n < 221876928000000
    below n is = grind (arith, nat_tests)
