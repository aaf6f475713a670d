use Rattle.std.proofs.Common.{◌≡◌, ◌++◌, length, map, reverse}
use Rattle.bdb_settle.specs.Passes.{after_pass}
use Rattle.bdb_settle.proofs.sections.pass_backward.Given as goal

-- The sections that were taken off are there after the pass, the last one first.
abbrev pub invariant-loop-section : goal.invariant-loop-section
invariant-loop-section l = map (after_pass l.pass) l.fn.sections ≡ map (after_pass l.pass) l.sections ++ reverse l.all.items

abbrev pub decreases-loop-section : goal.decreases-loop-section
decreases-loop-section l = length l.sections
