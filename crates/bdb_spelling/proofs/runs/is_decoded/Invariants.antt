use Rattle.std.proofs.Common.{◌≡◌, ◌*◌, drop, false, take}
use Rattle.bdb_text_format.specs.Terms.{bytes_spelled}
use Rattle.bdb_spelling.specs.Runs.{joined}
use Rattle.bdb_spelling.proofs.runs.is_decoded.Given as goal

-- the run spells the bytes so far, and then what the rest of it spells
abbrev pub invariant-loop-i : goal.invariant-loop-i
invariant-loop-i l = bytes_spelled false l.run ≡ joined (take l.i l.bytes) (bytes_spelled false (drop (2 * l.i) l.run))
