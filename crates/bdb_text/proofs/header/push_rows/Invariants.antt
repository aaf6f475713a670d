use Rattle.std.proofs.Common.{◌≡◌, ◌++◌, take, map}
use Rattle.bdb_text.specs.Headers.{row_seen, rows_text}
use Rattle.bdb_text.proofs.header.push_rows.Given as goal

-- the lines of the first rows were added
abbrev pub invariant-loop-row : goal.invariant-loop-row
invariant-loop-row l = l.text ≡ l.fn.text ++ rows_text (map row_seen (take l.row-index l.rows))
