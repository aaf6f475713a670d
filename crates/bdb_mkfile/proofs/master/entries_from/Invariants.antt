use Rattle.std.proofs.Common.{◌≡◌, ◌+◌, take}
use Rattle.bdb_mkfile.proofs.Common.{unlined_pairs, entries_from}
use Rattle.bdb_mkfile.proofs.master.entries_from.Given as goal

-- The sections passed have their pairs.
abbrev pub invariant-loop-section : goal.invariant-loop-section
invariant-loop-section l = (unlined_pairs l.entries ≡ entries_from l.first (take l.section-index l.sections)) × (l.number ≡ l.first + l.section-index)
