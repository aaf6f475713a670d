use Rattle.std.proofs.Common.{◌≡◌, ◌++◌, vec_len, reverse}
use Rattle.bdb_settle.proofs.turning.turned.Given as goal

-- The sections that were taken off are there, the last one first.
abbrev pub invariant-loop-section : goal.invariant-loop-section
invariant-loop-section l = reverse l.fn.sections.items ≡ l.all ++ reverse l.sections.items

abbrev pub decreases-loop-section : goal.decreases-loop-section
decreases-loop-section l = vec_len l.sections
