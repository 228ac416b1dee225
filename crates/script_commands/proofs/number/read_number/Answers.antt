use Rattle.std.proofs.Common.{◌≡◌, ◌<◌, ◌^◌, ℕ, List, Some, None, true, false, length, take, get_or, arith, eqb, sym, ap, subst, refl, ◌∙◌}
use Rattle.std.specs.Char.{is_ascii_digit}
use Rattle.std.specs.List.{list_all}
use Rattle.std.specs.Str.Parse.{digits_value}
use Rattle.std.proofs.lemmas.Bool.Decides.{nat_tests}
use Rattle.std.proofs.lemmas.List.{take_all}
use Rattle.std.proofs.lemmas.List.Folds.{list_all_more}
use Rattle.std.proofs.lemmas.Int.Digits.{digits_value_more}
use Rattle.script_commands.specs.Numbers.{with_digit}
use Rattle.script_commands.proofs.NumberLemmas.{digit_read, number_fails, number_is, number_of_none}
use Rattle.script_commands.proofs.number.read_number.Goals as goal

pub returns-then-is_empty : goal.returns-then-is_empty
returns-then-is_empty c =
    let test : eqb (length c.args.text.now) 0 ≡ true = sym c.is_empty.ensures ∙ c.if-is_empty.true in
    let none : length c.args.text.now ≡ 0 = grind (arith, nat_tests) in
    sym (number_of_none c.args.text.now none)

pub returns-in_err-value : goal.returns-in_err-value
returns-in_err-value c =
    let here : c.loop-byte.byte-index < length c.args.text.now = omega arith in
    let none : with_digit (digits_value 10 (take c.loop-byte.byte-index c.args.text.now)) (get_or c.args.text.now c.loop-byte.byte-index 0) ≡ None =
    subst (λ (v : ℕ). with_digit v (get_or c.args.text.now c.loop-byte.byte-index 0) ≡ None) c.loop-byte.invariant.value (sym c.push_digit.ensures ∙ c.in_err-value.was) in
    c.from_residual.ensures ∙ sym (number_fails c.args.text.now c.loop-byte.byte-index here none)

pub loop-byte-preserved : goal.loop-byte-preserved
loop-byte-preserved c =
    let here : c.loop-byte.byte-index < length c.args.text.now = omega arith in
    let read = digit_read c.loop-byte.value (get_or c.args.text.now c.loop-byte.byte-index 0) c.in_ok-value.value (sym c.push_digit.ensures ∙ c.in_ok-value.was) in
    let passed = list_all_more is_ascii_digit c.args.text.now c.loop-byte.byte-index 0 here in
    let value = digits_value_more 10 c.args.text.now c.loop-byte.byte-index here in
    record {
      digits = rw (passed, c.loop-byte.invariant.digits, read.0) refl;
      small = read.2;
      value = read.1 ∙ rw c.loop-byte.invariant.value (sym value);
    }

pub returns : goal.returns
returns c =
    let whole : take c.loop-byte.byte-index c.args.text.now ≡ c.args.text.now = take_all c.loop-byte.byte-index c.args.text.now (omega arith) in
    let test : eqb (length c.args.text.now) 0 ≡ false = sym c.is_empty.ensures ∙ c.if-is_empty.false in
    let some : 0 < length c.args.text.now = grind (arith, nat_tests) in
    let digits : list_all is_ascii_digit c.args.text.now ≡ true = subst (λ (t : List ℕ). list_all is_ascii_digit t ≡ true) whole c.loop-byte.invariant.digits in
    let value : c.loop-byte.value ≡ digits_value 10 c.args.text.now = c.loop-byte.invariant.value ∙ ap (λ (t : List ℕ). digits_value 10 t) whole in
    let small : digits_value 10 c.args.text.now < 2 ^ 64 = subst (λ (n : ℕ). n < 2 ^ 64) value c.loop-byte.invariant.small in
    ap (λ (n : ℕ). Some n) value ∙ number_is c.args.text.now some digits small
