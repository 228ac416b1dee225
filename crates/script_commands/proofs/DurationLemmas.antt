-- Durations are read as the grammar has them.
use Rattle.std.proofs.Common.{◌≡◌, ℕ, ◌+◌, ◌*◌, ◌^◌, ◌<◌, ◌≤◌, List, [], ◌∷◌, ◌++◌, Bool, true, false, not, cond, Option, Some, None, length, take, drop, min, refl, sym, ap, subst, ◌∙◌, arith}
use Rattle.std.specs.Prelude.{codes, option_and_then, nat_le, nat_lt}
use Rattle.std.specs.Char.{is_ascii_digit}
use Rattle.std.specs.List.{list_all, position_or_len}
use Rattle.std.specs.Str.{bytes_eq}
use Rattle.std.proofs.lemmas.Bool.Decides.{nat_tests}
use Rattle.std.proofs.lemmas.List.{take-append-drop, length-take, length-append}
use Rattle.std.proofs.Math.Seq.{take-append_seam, drop-append_seam}
use Rattle.shard_base.specs.Options.{◌>>=◌}
use Rattle.script_commands.specs.Numbers.{number_reading, unit_reading, unit_place, within_a_day, duration_reading}
use Rattle.script_commands.specs.Grammar.{IsNumber, IsUnit}
use Rattle.script_commands.specs.Grammar.IsUnit.{is_millisecond, is_second, is_minute}
use Rattle.script_commands.proofs.OptionLemmas.{bind_some, cond_some, only_if_some, and_both, same_bytes, choose}
use Rattle.script_commands.proofs.NumberLemmas.{number_of, number_reads}

-- ---- units

last_unit : (text : List ℕ) (n : ℕ) → cond (bytes_eq text (codes "m")) (Some 60000) None ≡ Some n → IsUnit text n
last_unit text n h =
    let p = only_if_some (bytes_eq text (codes "m")) 60000 n h in
    is_minute (same_bytes text (codes "m") p.0) (sym p.1)

unit_of : (text : List ℕ) (n : ℕ) → unit_reading text ≡ Some n → IsUnit text n
unit_of text n h =
    choose (IsUnit text n) (bytes_eq text (codes "ms")) (Some 1) (cond (bytes_eq text (codes "s")) (Some 1000) (cond (bytes_eq text (codes "m")) (Some 60000) None)) n h
    (λ is got. is_millisecond (same_bytes text (codes "ms") is) (let e : n ≡ 1 = (cc) in e))
    (λ others. choose (IsUnit text n) (bytes_eq text (codes "s")) (Some 1000) (cond (bytes_eq text (codes "m")) (Some 60000) None) n others
    (λ is got. is_second (same_bytes text (codes "s") is) (let e : n ≡ 1000 = (cc) in e))
    (λ last. last_unit text n last))

unit_reads : (text : List ℕ) (n : ℕ) → IsUnit text n → unit_reading text ≡ Some n
unit_reads text n (is_millisecond word is) = ap (λ (t : List ℕ). unit_reading t) word ∙ ap (λ (k : ℕ). Some k) (sym is)
unit_reads text n (is_second word is) = ap (λ (t : List ℕ). unit_reading t) word ∙ ap (λ (k : ℕ). Some k) (sym is)
unit_reads text n (is_minute word is) = ap (λ (t : List ℕ). unit_reading t) word ∙ ap (λ (k : ℕ). Some k) (sym is)

-- a count of units within a day is small
small_count : (text : List ℕ) (count unit n : ℕ) → IsUnit text unit → count * unit ≡ n → n ≤ 86400000 → count < 2 ^ 64
small_count text count unit n (is_millisecond word is) value day = let e : count * 1 ≡ n = subst (λ (k : ℕ). count * k ≡ n) is value in omega (arith, e, day)
small_count text count unit n (is_second word is) value day = let e : count * 1000 ≡ n = subst (λ (k : ℕ). count * k ≡ n) is value in omega (arith, e, day)
small_count text count unit n (is_minute word is) value day = let e : count * 60000 ≡ n = subst (λ (k : ℕ). count * k ≡ n) is value in omega (arith, e, day)

-- ---- the place of the unit

place_is : (digits : List ℕ) (b : ℕ) (rest : List ℕ) → list_all is_ascii_digit digits ≡ true → is_ascii_digit b ≡ false → position_or_len (λ c. not (is_ascii_digit c)) (digits ++ b ∷ rest) ≡ length digits
place_is [] b rest all odd = rw odd refl
place_is (d ∷ ds) b rest all odd =
    let tests = and_both (is_ascii_digit d) (list_all is_ascii_digit ds) all in
    rw (tests.0, place_is ds b rest tests.1 odd) (omega arith)

place_of : (digits : List ℕ) (b : ℕ) (rest : List ℕ) → list_all is_ascii_digit digits ≡ true → is_ascii_digit b ≡ false → unit_place (digits ++ b ∷ rest) ≡ Some (length digits)
place_of digits b rest all odd =
    let at : position_or_len (λ c. not (is_ascii_digit c)) (digits ++ b ∷ rest) ≡ length digits = place_is digits b rest all odd in
    let inside : nat_lt (length digits) (length (digits ++ b ∷ rest)) ≡ true = (let size : length (digits ++ b ∷ rest) ≡ length digits + length (b ∷ rest) = length-append digits (b ∷ rest) in grind (arith, nat_tests)) in
    ap (λ (k : ℕ). cond (nat_lt k (length (digits ++ b ∷ rest))) (Some k) None) at ∙ ap (λ (t : Bool). cond t (Some (length digits)) None) inside

unit_at : (digits text : List ℕ) (n : ℕ) → list_all is_ascii_digit digits ≡ true → IsUnit text n → unit_place (digits ++ text) ≡ Some (length digits)
unit_at digits text n all (is_millisecond word is) = ap (λ (t : List ℕ). unit_place (digits ++ t)) word ∙ place_of digits 109 (115 ∷ []) all refl
unit_at digits text n all (is_second word is) = ap (λ (t : List ℕ). unit_place (digits ++ t)) word ∙ place_of digits 115 [] all refl
unit_at digits text n all (is_minute word is) = ap (λ (t : List ℕ). unit_place (digits ++ t)) word ∙ place_of digits 109 [] all refl

-- ---- whole durations

-- the parts of a duration
pub record Duration (text : List ℕ) (milliseconds : ℕ) : Type 0 where
  pub digits : List ℕ
  pub unit_text : List ℕ
  pub split : text ≡ digits ++ unit_text
  pub count : ℕ
  pub number : IsNumber digits count
  pub few_digits : length digits ≤ 9
  pub unit : ℕ
  pub is_unit : IsUnit unit_text unit
  pub value : count * unit ≡ milliseconds
  pub to_a_day : milliseconds ≤ 86400000

is_day : (k n : ℕ) → nat_le k 86400000 ≡ true → k ≡ n → n ≤ 86400000
is_day k n room is = let less : k ≤ 86400000 = grind (arith, nat_tests) in omega (arith, less, is)

pub duration_of : (text : List ℕ) (n : ℕ) → duration_reading text ≡ Some n → Duration text n
unfolding duration_reading
duration_of text n h =
    let p = bind_some (unit_place text) (λ k. cond (nat_le k 9) (number_reading (take k text) >>= (λ m. unit_reading (drop k text) >>= (λ u. within_a_day m u))) None) n h in
    let q = cond_some (nat_le p.0 9) (number_reading (take p.0 text) >>= (λ m. unit_reading (drop p.0 text) >>= (λ u. within_a_day m u))) n p.2 in
    let r = bind_some (number_reading (take p.0 text)) (λ m. unit_reading (drop p.0 text) >>= (λ u. within_a_day m u)) n q.1 in
    let t = bind_some (unit_reading (drop p.0 text)) (λ u. within_a_day r.0 u) n r.2 in
    let day = only_if_some (nat_le (r.0 * t.0) 86400000) (r.0 * t.0) n t.2 in
    let few : nat_le p.0 9 ≡ true = q.0 in
    let size : length (take p.0 text) ≡ min p.0 (length text) = length-take p.0 text in
    record {
      digits = take p.0 text;
      unit_text = drop p.0 text;
      split = sym (take-append-drop p.0 text);
      count = r.0;
      number = number_of (take p.0 text) r.0 r.1;
      few_digits = grind (arith, nat_tests);
      unit = t.0;
      is_unit = unit_of (drop p.0 text) t.0 t.1;
      value = day.1;
      to_a_day = is_day (r.0 * t.0) n day.0 day.1;
    }

day_reads : (count unit n : ℕ) → count * unit ≡ n → n ≤ 86400000 → within_a_day count unit ≡ Some n
day_reads count unit n value day = ap (λ (k : ℕ). cond (nat_le k 86400000) (Some k) None) value ∙ (let room : nat_le n 86400000 ≡ true = grind (arith, nat_tests) in ap (λ (t : Bool). cond t (Some n) None) room)

parts_read : (digits text : List ℕ) (count unit n : ℕ) → IsNumber digits count → length digits ≤ 9 → IsUnit text unit → count * unit ≡ n → n ≤ 86400000 → duration_reading (digits ++ text) ≡ Some n
unfolding duration_reading
parts_read digits text count unit n number few is_unit value day =
    let place : unit_place (digits ++ text) ≡ Some (length digits) = unit_at digits text unit number.are_digits is_unit in
    let short : nat_le (length digits) 9 ≡ true = grind (arith, nat_tests) in
    let counted : number_reading (take (length digits) (digits ++ text)) ≡ Some count = ap (λ (t : List ℕ). number_reading t) (take-append_seam digits text) ∙ number_reads digits count number (small_count text count unit n is_unit value day) in
    let unit_read : unit_reading (drop (length digits) (digits ++ text)) ≡ Some unit = ap (λ (t : List ℕ). unit_reading t) (drop-append_seam digits text) ∙ unit_reads text unit is_unit in
    ap (λ (o : Option ℕ). option_and_then (λ k. cond (nat_le k 9) (number_reading (take k (digits ++ text)) >>= (λ m. unit_reading (drop k (digits ++ text)) >>= (λ u. within_a_day m u))) None) o) place
    ∙ ap (λ (b : Bool). cond b (number_reading (take (length digits) (digits ++ text)) >>= (λ m. unit_reading (drop (length digits) (digits ++ text)) >>= (λ u. within_a_day m u))) None) short
    ∙ ap (λ (o : Option ℕ). option_and_then (λ m. unit_reading (drop (length digits) (digits ++ text)) >>= (λ u. within_a_day m u)) o) counted
    ∙ ap (λ (o : Option ℕ). option_and_then (λ u. within_a_day count u) o) unit_read
    ∙ day_reads count unit n value day

pub duration_reads : (text : List ℕ) (n : ℕ) → Duration text n → duration_reading text ≡ Some n
duration_reads text n h = ap (λ (t : List ℕ). duration_reading t) h.split ∙ parts_read h.digits h.unit_text h.count h.unit n h.number h.few_digits h.is_unit h.value h.to_a_day
