use Rattle.std.proofs.Common.{◌≡◌, ◌++◌}
use Rattle.std.specs.Vec.Iter.{into_iter_items}
use Rattle.bdb_mkfile.proofs.order.put_back.Given as goal

-- The sections so far are put back.
abbrev pub invariant-loop-section : goal.invariant-loop-section
invariant-loop-section l = l.fn.sections.items ≡ l.all ++ into_iter_items l.section-iterator
