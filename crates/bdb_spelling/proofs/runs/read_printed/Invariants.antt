use Rattle.std.proofs.Common.{◌≡◌, length, true}
use Rattle.bdb_text_format.specs.Terms.{bytes_spelled}
use Rattle.bdb_spelling.specs.Runs.{joined}
use Rattle.bdb_spelling.proofs.runs.read_printed.Given as goal

-- behind what was there, the text spells the bytes so far, and then what the rest of it spells
abbrev pub invariant-loop-rest : goal.invariant-loop-rest
invariant-loop-rest l = joined l.fn.bytes.items (bytes_spelled true l.text) ≡ joined l.bytes.items (bytes_spelled true l.rest)

abbrev pub decreases-loop-rest : goal.decreases-loop-rest
decreases-loop-rest l = length l.rest
