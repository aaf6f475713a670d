use Rattle.bdb_spelling.proofs.ReadingLemmas.{digits_are, digits_none, digits_odd}
use Rattle.bdb_spelling.proofs.bytevalue.first_of_digits.Goals as goal

pub returns-in_err-high : goal.returns-in_err-high
returns-in_err-high c = rw c.from_residual.ensures (digits_none _ c.in_err-high.ensures.cases)

pub returns-in_err-low : goal.returns-in_err-low
returns-in_err-low c = rw c.from_residual-in_err-low.ensures (digits_odd _ _ _ c.in_ok-high.ensures.cases.0 c.in_err-low.ensures.cases)

pub returns-in_err-byte : goal.returns-in_err-byte
returns-in_err-byte c =
    rw c.from_residual-in_err-byte.ensures (digits_are _ _ _ _ _ _ c.in_ok-high.ensures.cases.0 c.in_ok-low.ensures.cases.0 c.in_err-byte.ensures)

pub returns : goal.returns
returns c = digits_are _ _ _ _ _ _ c.in_ok-high.ensures.cases.0 c.in_ok-low.ensures.cases.0 c.in_ok-byte.ensures
