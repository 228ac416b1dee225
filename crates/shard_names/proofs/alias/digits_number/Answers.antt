use Rattle.std.proofs.Common.{◌<◌, ◌≤◌, ◌^◌, length, take, arith, length-take}
use Rattle.std.specs.Char.{is_ascii_digit}
use Rattle.std.proofs.lemmas.List.Folds.{list_all_more}
use Rattle.std.proofs.lemmas.Int.Digits.{digits_more, digits_value_more}
use Rattle.shard_names.proofs.AliasLemmas.{digits_small}
use Rattle.shard_names.proofs.alias.digits_number.Goals as goal

pub overflow_mul-value : goal.overflow_mul-value
overflow_mul-value c =
    let size : length (take c.loop-byte.byte-index c.args.text.now) ≤ 9 = simp length-take (omega arith) in
    let small : c.loop-byte.value < 10 ^ 9 = rw c.loop-byte.invariant.value (digits_small _ c.loop-byte.invariant.digits size) in
    omega arith

pub overflow_add-value : goal.overflow_add-value
overflow_add-value c =
    let size : length (take c.loop-byte.byte-index c.args.text.now) ≤ 9 = simp length-take (omega arith) in
    let small : c.loop-byte.value < 10 ^ 9 = rw c.loop-byte.invariant.value (digits_small _ c.loop-byte.invariant.digits size) in
    let byte = c.type_inv.text c.loop-byte.byte-index in
    omega (arith, byte)

pub loop-byte-preserved : goal.loop-byte-preserved
loop-byte-preserved c =
    let here : c.loop-byte.byte-index < length c.args.text.now = omega arith in
    let is = c.if-not-is_ascii_digit.ensures in
    let passed = list_all_more is_ascii_digit c.args.text.now c.loop-byte.byte-index 0 here in
    let value = digits_value_more 10 c.args.text.now c.loop-byte.byte-index here in
    record {
      passed = grind (arith, passed);
      digits = digits_more 10 _ _ here c.loop-byte.invariant.digits is.bound;
      value = grind (arith, value, is.cases);
    }
