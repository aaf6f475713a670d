use Rattle.std.proofs.Common.{length, ◌∙◌, arith}
use Rattle.bdb_spelling.proofs.DigitLemmas.{behind_prefix, eight_fit, length-behind_prefix, no_hexadecimal, some_hexadecimal}
use Rattle.bdb_spelling.proofs.digits.hexadecimal.Goals as goal

pub overflow_cast-result : goal.overflow_cast-result
overflow_cast-result c =
    let size = length-behind_prefix c.args.value.now in
    let fits = eight_fit c.in_ok-digits_in.field-0 (length (behind_prefix c.args.value.now)) c.in_ok-digits_in.ensures.bound (omega arith) in
    omega arith

pub returns : goal.returns
returns c = some_hexadecimal c.args.value.now _ _ c.as_slice.ensures c.if-ne.ensures c.if-value-lt3.false c.if-value-gt10.false c.in_ok-digits_in.ensures.value

pub returns-in_err-digits_in : goal.returns-in_err-digits_in
returns-in_err-digits_in c =
    c.from_residual.ensures
    ∙ no_hexadecimal c.args.value.now _ c.as_slice.ensures c.if-ne.ensures c.if-value-lt3.false c.if-value-gt10.false c.in_err-digits_in.ensures.value
