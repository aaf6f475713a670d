use Rattle.std.proofs.Common.{◌∙◌}
use Rattle.bdb_spelling.proofs.ReadingLemmas.{printed_escape, printed_itself, printed_none}
use Rattle.bdb_spelling.proofs.printed.first_printed.Goals as goal

pub returns-in_err-byte : goal.returns-in_err-byte
returns-in_err-byte c = rw c.from_residual.ensures (printed_none _ c.in_err-byte.ensures.cases)

pub returns-then-byte-eq92 : goal.returns-then-byte-eq92
returns-then-byte-eq92 c = c.first_escaped.ensures ∙ printed_escape _ _ _ c.in_ok-byte.ensures.cases.0 c.if-byte-eq92.true

pub returns-else-byte-eq92 : goal.returns-else-byte-eq92
returns-else-byte-eq92 c = printed_itself _ _ _ c.in_ok-byte.ensures.cases.0 c.if-byte-eq92.false
