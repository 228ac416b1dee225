-- Decimal digits, one after another.
use Rattle.std.proofs.Common.{◌≡◌, ℕ, ◌+◌, ◌-◌, ◌*◌, ◌^◌, ◌<◌, ◌≤◌, List, Bool, true, false, cond, ◌&&◌, Option, Some, None, length, take, get_or, refl, sym, ap, subst, ◌∙◌, arith}
use Rattle.std.specs.Prelude.{nat_le, nat_lt, option_and_then}
use Rattle.std.specs.Char.{is_ascii_digit, digit_value}
use Rattle.std.specs.List.{list_all}
use Rattle.std.specs.Str.Parse.{digits_value}
use Rattle.std.proofs.lemmas.Bool.Decides.{nat_tests}
use Rattle.std.proofs.lemmas.List.Folds.{list_all_at}
use Rattle.std.proofs.lemmas.Int.Digits.{digits_value_more}
use Rattle.std.proofs.lemmas.Str.Parse.{digits_value-take-le}
use Rattle.shard_base.specs.Options.{only_if}
use Rattle.script_commands.specs.Numbers.{number_reading, number_within, with_digit}
use Rattle.script_commands.specs.Grammar.{IsNumber}
use Rattle.script_commands.proofs.OptionLemmas.{bind_some, only_if_some, and_both}

digit_is : (b : ℕ) → is_ascii_digit b ≡ true → digit_value b ≡ b - 48
digit_is b h = grind (arith, nat_tests)

-- the number with one more digit
pub digit_read : (v b w : ℕ) → with_digit v b ≡ Some w → (is_ascii_digit b ≡ true) × (w ≡ v * 10 + digit_value b) × (w < 2 ^ 64)
digit_read v b w h =
    let p = only_if_some (is_ascii_digit b && nat_lt (v * 10 + (b - 48)) (2 ^ 64)) (v * 10 + (b - 48)) w h in
    let q = and_both (is_ascii_digit b) (nat_lt (v * 10 + (b - 48)) (2 ^ 64)) p.0 in
    let fits : nat_lt (v * 10 + (b - 48)) (2 ^ 64) ≡ true = q.1 in
    (q.0, sym p.1 ∙ ap (λ (n : ℕ). v * 10 + n) (sym (digit_is b q.0)), subst (λ (n : ℕ). n < 2 ^ 64) p.1 (grind (arith, nat_tests)))

-- there is none where it has more than 64 bits
large : (v b : ℕ) (p q : Bool) → p ≡ true → nat_lt (v * 10 + (b - 48)) (2 ^ 64) ≡ q → cond (p && q) (Some (v * 10 + (b - 48))) None ≡ None → 2 ^ 64 ≤ v * 10 + (b - 48)
large v b true true is lt h = absurd (cc)
large v b true false is lt h = grind (arith, nat_tests)
large v b false q is lt h = absurd (cc)

no_digit : (a b c : Bool) (n : ℕ) → b ≡ false → cond (a && b && c) (Some n) None ≡ None
no_digit true true c n h = absurd (cc)
no_digit true false c n h = refl
no_digit false b c n h = refl

no_room : (a b c : Bool) (n : ℕ) → c ≡ false → cond (a && b && c) (Some n) None ≡ None
no_room true true true n h = absurd (cc)
no_room true true false n h = refl
no_room true false c n h = refl
no_room false b c n h = refl

pub number_fails : (text : List ℕ) (i : ℕ) → i < length text → with_digit (digits_value 10 (take i text)) (get_or text i 0) ≡ None → number_reading text ≡ None
unfolding number_reading
number_fails text i here none = by_digit (is_ascii_digit (get_or text i 0)) refl
  where
    by_digit : (b : Bool) → is_ascii_digit (get_or text i 0) ≡ b → cond (nat_le 1 (length text) && list_all is_ascii_digit text && nat_lt (digits_value 10 text) (2 ^ 64)) (Some (digits_value 10 text)) None ≡ None
    by_digit false is = no_digit (nat_le 1 (length text)) (list_all is_ascii_digit text) (nat_lt (digits_value 10 text) (2 ^ 64)) (digits_value 10 text) (list_all_at is_ascii_digit text i 0 here is)
    by_digit true is =
        let much : 2 ^ 64 ≤ digits_value 10 (take i text) * 10 + (get_or text i 0 - 48) = large (digits_value 10 (take i text)) (get_or text i 0) (is_ascii_digit (get_or text i 0)) (nat_lt (digits_value 10 (take i text) * 10 + (get_or text i 0 - 48)) (2 ^ 64)) is refl none in
        let more : digits_value 10 (take (i + 1) text) ≡ digits_value 10 (take i text) * 10 + digit_value (get_or text i 0) = digits_value_more 10 text i here in
        let least : digits_value 10 (take (i + 1) text) ≤ digits_value 10 text = digits_value-take-le 10 text (i + 1) (omega arith) in
        let value : 2 ^ 64 ≤ digits_value 10 text = omega (arith, much, more, least, digit_is (get_or text i 0) is) in
        no_room (nat_le 1 (length text)) (list_all is_ascii_digit text) (nat_lt (digits_value 10 text) (2 ^ 64)) (digits_value 10 text) (grind (arith, nat_tests))

pub number_is : (text : List ℕ) → 0 < length text → list_all is_ascii_digit text ≡ true → digits_value 10 text < 2 ^ 64 → Some (digits_value 10 text) ≡ number_reading text
unfolding number_reading
number_is text some digits small =
    let one : nat_le 1 (length text) ≡ true = grind (arith, nat_tests) in
    let fits : nat_lt (digits_value 10 text) (2 ^ 64) ≡ true = grind (arith, nat_tests) in
    rw (one, digits, fits) refl

pub number_of_none : (text : List ℕ) → length text ≡ 0 → number_reading text ≡ None
unfolding number_reading
number_of_none text none =
    let one : nat_le 1 (length text) ≡ false = grind (arith, nat_tests) in
    rw one refl

-- ---- numbers as the grammar has them

pub number_of : (text : List ℕ) (n : ℕ) → number_reading text ≡ Some n → IsNumber text n
unfolding number_reading
number_of text n h =
    let number = only_if_some (nat_le 1 (length text) && list_all is_ascii_digit text && nat_lt (digits_value 10 text) (2 ^ 64)) (digits_value 10 text) n h in
    let sized = and_both (nat_le 1 (length text) && list_all is_ascii_digit text) (nat_lt (digits_value 10 text) (2 ^ 64)) number.0 in
    let digits = and_both (nat_le 1 (length text)) (list_all is_ascii_digit text) sized.0 in
    let some : nat_le 1 (length text) ≡ true = digits.0 in
    record { some_digit = grind (arith, nat_tests); are_digits = digits.1; value = number.1 }

pub number_small : (text : List ℕ) (n : ℕ) → number_reading text ≡ Some n → n < 2 ^ 64
unfolding number_reading
number_small text n h =
    let number = only_if_some (nat_le 1 (length text) && list_all is_ascii_digit text && nat_lt (digits_value 10 text) (2 ^ 64)) (digits_value 10 text) n h in
    let sized = and_both (nat_le 1 (length text) && list_all is_ascii_digit text) (nat_lt (digits_value 10 text) (2 ^ 64)) number.0 in
    let few : nat_lt (digits_value 10 text) (2 ^ 64) ≡ true = sized.1 in
    let small : digits_value 10 text < 2 ^ 64 = grind (arith, nat_tests) in
    subst (λ (k : ℕ). k < 2 ^ 64) number.1 small

pub number_reads : (text : List ℕ) (n : ℕ) → IsNumber text n → n < 2 ^ 64 → number_reading text ≡ Some n
number_reads text n h small =
    sym (number_is text h.some_digit h.are_digits (subst (λ (k : ℕ). k < 2 ^ 64) (sym h.value) small)) ∙ ap (λ (k : ℕ). Some k) h.value

-- a number in its bounds
pub record Within (least most : ℕ) (text : List ℕ) (n : ℕ) : Type 0 where
  pub number : IsNumber text n
  pub from_least : least ≤ n
  pub to_most : n ≤ most

pub within_of : (least most : ℕ) (text : List ℕ) (n : ℕ) → number_within least most text ≡ Some n → Within least most text n
unfolding number_within
within_of least most text n h =
    let q = bind_some (number_reading text) (λ k. only_if (nat_le least k && nat_le k most) k) n h in
    let range = only_if_some (nat_le least q.0 && nat_le q.0 most) q.0 n q.2 in
    let tests = and_both (nat_le least q.0) (nat_le q.0 most) range.0 in
    let low : nat_le least q.0 ≡ true = tests.0 in
    let high : nat_le q.0 most ≡ true = tests.1 in
    let above : least ≤ q.0 = grind (arith, nat_tests) in
    let below : q.0 ≤ most = grind (arith, nat_tests) in
    subst (λ (k : ℕ). Within least most text k) range.1 (record { number = number_of text q.0 q.1; from_least = above; to_most = below })

pub within_reads : (least most : ℕ) (text : List ℕ) (n : ℕ) → IsNumber text n → least ≤ n → n ≤ most → most < 2 ^ 64 → number_within least most text ≡ Some n
unfolding number_within
within_reads least most text n number from to small =
    let low : nat_le least n ≡ true = grind (arith, nat_tests) in
    let high : nat_le n most ≡ true = grind (arith, nat_tests) in
    let fits : n < 2 ^ 64 = omega (arith, to, small) in
    ap (λ (o : Option ℕ). option_and_then (λ k. only_if (nat_le least k && nat_le k most) k) o) (number_reads text n number fits) ∙ rw (low, high) refl
