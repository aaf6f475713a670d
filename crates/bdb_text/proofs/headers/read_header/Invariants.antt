use Rattle.std.proofs.Common.{◌+◌, ◌≤◌, length}
use Rattle.bdb_spelling.specs.of_text_format.Terms.{text_lines}
use Rattle.bdb_text.specs.Fields.{entries_in}
use Rattle.bdb_text.specs.ReadTo.{IsHeaderTo}
use Rattle.bdb_text.proofs.headers.read_header.Given as goal

-- the lines so far fit, and the fields are theirs
abbrev pub invariant-loop-rest : goal.invariant-loop-rest
invariant-loop-rest l = record {
  to : IsHeaderTo (text_lines l.text) l.start (entries_in l.fields.items) (text_lines l.rest) l.number;
  room : l.number + length l.rest ≤ l.start + length l.text;
}

abbrev pub decreases-loop-rest : goal.decreases-loop-rest
decreases-loop-rest l = length l.rest
