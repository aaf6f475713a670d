use Rattle.std.proofs.Common.{◌≡◌, ◌++◌, length, reverse}
use Rattle.bdb_tool_build.proofs.onto.backward.Given as goal

-- The sections that were taken off are there, the last one first.
abbrev pub invariant-loop-section : goal.invariant-loop-section
invariant-loop-section l = l.fn.sections ≡ l.sections ++ reverse l.all.items

abbrev pub decreases-loop-section : goal.decreases-loop-section
decreases-loop-section l = length l.sections
