use Rattle.std.proofs.Common.{false}
use Rattle.bdb_text.proofs.PlacingLemmas.{counted_line_fault}
use Rattle.bdb_text.proofs.data_pairs.read_pair.Goals as goal

pub returns-in-Err-clause-err : goal.returns-in-Err-clause-err
returns-in-Err-clause-err c =
    rw c.if-way.false
    (rw c.error_at.ensures (counted_line_fault c.args.way.print c.args.line.now c.args.number c.in-Err.error (c.in-Err.ensures.err false)))
