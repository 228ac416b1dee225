use Rattle.std.proofs.Common.{◌≡◌, ◌<◌, ◌+◌, ◌*◌, ℕ, List, Some, true, false, length, take, get_or, arith, eqb, sym, ap, subst, refl, ◌∙◌}
use Rattle.std.specs.Prelude.{min}
use Rattle.std.specs.Char.{is_ascii_digit, digit_value}
use Rattle.std.specs.List.{list_all}
use Rattle.std.specs.Str.Parse.{digits_value}
use Rattle.std.proofs.lemmas.Bool.Decides.{nat_tests}
use Rattle.std.proofs.lemmas.List.{take_all}
use Rattle.std.proofs.lemmas.List.Folds.{list_all_more}
use Rattle.std.proofs.lemmas.Int.Digits.{digits_value_more}
use Rattle.gtid_sets.proofs.ReadingLemmas.{digit_read, capped, number_fails, number_is, number_of_none}
use Rattle.gtid_sets.proofs.reading.read_number.Goals as goal

pub returns-then-is_empty : goal.returns-then-is_empty
returns-then-is_empty c =
    let test : eqb (length c.args.text.now) 0 ≡ true = sym c.is_empty.ensures ∙ c.if-is_empty.true in
    let none : length c.args.text.now ≡ 0 = grind (arith, nat_tests) in
    sym (number_of_none c.args.text.now none)

pub returns-in_err-value : goal.returns-in_err-value
returns-in_err-value c =
    let here : c.loop-byte.byte-index < length c.args.text.now = omega arith in
    c.from_residual.ensures ∙ sym (number_fails c.args.text.now c.loop-byte.byte-index c.loop-byte.value here (sym c.with_digit.ensures ∙ c.in_err-value.was))

pub loop-byte-preserved : goal.loop-byte-preserved
loop-byte-preserved c =
    let here : c.loop-byte.byte-index < length c.args.text.now = omega arith in
    let read = digit_read c.loop-byte.value (get_or c.args.text.now c.loop-byte.byte-index 0) c.in_ok-value.value (sym c.with_digit.ensures ∙ c.in_ok-value.was) in
    let passed = list_all_more is_ascii_digit c.args.text.now c.loop-byte.byte-index 0 here in
    let value = digits_value_more 10 c.args.text.now c.loop-byte.byte-index here in
    record {
      digits = rw (passed, c.loop-byte.invariant.digits, read.0) refl;
      value =
          read.1
          ∙ ap (λ (n : ℕ). min (n * 10 + digit_value (get_or c.args.text.now c.loop-byte.byte-index 0)) 9223372036854775807) c.loop-byte.invariant.value
          ∙ capped (digits_value 10 (take c.loop-byte.byte-index c.args.text.now)) (digit_value (get_or c.args.text.now c.loop-byte.byte-index 0))
          ∙ ap (λ (n : ℕ). min n 9223372036854775807) (sym value);
    }

pub returns : goal.returns
returns c =
    let whole : take c.loop-byte.byte-index c.args.text.now ≡ c.args.text.now = take_all c.loop-byte.byte-index c.args.text.now (omega arith) in
    let test : eqb (length c.args.text.now) 0 ≡ false = sym c.is_empty.ensures ∙ c.if-is_empty.false in
    let some : 0 < length c.args.text.now = grind (arith, nat_tests) in
    let digits : list_all is_ascii_digit c.args.text.now ≡ true = subst (λ (t : List ℕ). list_all is_ascii_digit t ≡ true) whole c.loop-byte.invariant.digits in
    let value : c.loop-byte.value ≡ min (digits_value 10 c.args.text.now) 9223372036854775807 = c.loop-byte.invariant.value ∙ ap (λ (t : List ℕ). min (digits_value 10 t) 9223372036854775807) whole in
    ap (λ (n : ℕ). Some n) value ∙ number_is c.args.text.now some digits
