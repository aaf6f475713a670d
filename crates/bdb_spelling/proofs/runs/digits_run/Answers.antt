use Rattle.bdb_spelling.proofs.RunLemmas.{digits_read, digits_refused}
use Rattle.bdb_spelling.proofs.runs.digits_run.Goals as goal

pub returns-then-not-is_decoded-clause-value : goal.returns-then-not-is_decoded-clause-value
returns-then-not-is_decoded-clause-value c = digits_refused c.args.text.now c.min-digits.result c.min-digits.ensures
    (rw c.if-not-is_decoded.true at c.is_decoded.ensures)

pub returns-clause-value : goal.returns-clause-value
returns-clause-value c = digits_read c.args.text.now c.is_decoded.new.bytes c.min-digits.result c.min-digits.ensures
    (rw c.if-not-is_decoded.false at c.is_decoded.ensures)
