use Rattle.std.proofs.Common.{◌+◌, ◌≤◌, ◌^◌, take, sym, ◌∙◌, arith}
use Rattle.std.specs.Str.Parse.{digits_value}
use Rattle.script.proofs.NumberLemmas.{value_more, number_none, number_is}
use Rattle.script.proofs.words.digits_value.Goals as goal

pub returns-in_err-checked_mul : goal.returns-in_err-checked_mul
returns-in_err-checked_mul c =
    let more = value_more c.args.digits.now c.loop-digit.digit-index c.requires c.loop-digit-test.true in
    let large : 2 ^ 64 ≤ digits_value 10 (take (c.loop-digit.digit-index + 1) c.args.digits.now) = omega (arith, c.in_err-checked_mul.ensures) in
    c.from_residual.ensures ∙ sym (number_none c.args.digits.now (c.loop-digit.digit-index + 1) large)

pub returns-in_err-value : goal.returns-in_err-value
returns-in_err-value c =
    let more = value_more c.args.digits.now c.loop-digit.digit-index c.requires c.loop-digit-test.true in
    let large : 2 ^ 64 ≤ digits_value 10 (take (c.loop-digit.digit-index + 1) c.args.digits.now) =
    omega (arith, c.in_err-value.ensures, c.in_ok-checked_mul.ensures, c.from.ensures) in
    c.from_residual-in_err-value.ensures ∙ sym (number_none c.args.digits.now (c.loop-digit.digit-index + 1) large)

pub loop-digit-preserved : goal.loop-digit-preserved
loop-digit-preserved c =
    let more = value_more c.args.digits.now c.loop-digit.digit-index c.requires c.loop-digit-test.true in
    (omega (arith, c.in_ok-value.ensures, c.in_ok-checked_mul.ensures, c.from.ensures), omega (arith, c.in_ok-value.ensures))

pub returns : goal.returns
returns c = number_is c.args.digits.now c.loop-digit.digit-index c.loop-digit.value c.requires c.loop-digit-test.false c.loop-digit.invariant.0 c.loop-digit.invariant.1
