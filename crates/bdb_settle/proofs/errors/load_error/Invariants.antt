use Rattle.std.proofs.Common.{◌≡◌, take, None, flat_map, fold}
use Rattle.bdb_settle.specs.LoadErrors.{section_errors, sooner}
use Rattle.bdb_settle.proofs.errors.load_error.Given as goal

-- The first error of the sections so far.
abbrev pub invariant-loop-section : goal.invariant-loop-section
invariant-loop-section l = l.first ≡ fold sooner None (flat_map (section_errors l.size l.alone) (take l.section-index l.section-items))
