use Rattle.std.proofs.Common.{◌∙◌}
use Rattle.bdb_spelling.proofs.ReadingLemmas.{escaped_backslash, escaped_digits, escaped_none}
use Rattle.bdb_spelling.proofs.printed.first_escaped.Goals as goal

pub returns-in_err-byte : goal.returns-in_err-byte
returns-in_err-byte c = rw c.from_residual.ensures (escaped_none _ c.in_err-byte.ensures.cases)

pub returns-then-byte-eq92 : goal.returns-then-byte-eq92
returns-then-byte-eq92 c = escaped_backslash _ _ _ c.in_ok-byte.ensures.cases.0 c.if-byte-eq92.true

pub returns-else-byte-eq92 : goal.returns-else-byte-eq92
returns-else-byte-eq92 c = c.first_of_digits.ensures ∙ escaped_digits _ _ _ c.in_ok-byte.ensures.cases.0 c.if-byte-eq92.false
