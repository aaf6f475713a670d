use Rattle.std.proofs.Common.{◌≡◌, length, is_some}
use Rattle.bdb_text_format.specs.Terms.{bytes_spelled}
use Rattle.bdb_spelling.proofs.spellings.is_spelling.Given as goal

-- the text is a spelling exactly where the rest of it is one
abbrev pub invariant-loop-rest : goal.invariant-loop-rest
invariant-loop-rest l = is_some (bytes_spelled l.print l.text) ≡ is_some (bytes_spelled l.print l.rest)

abbrev pub decreases-loop-rest : goal.decreases-loop-rest
decreases-loop-rest l = length l.rest
