use Rattle.std.specs.List.Sorted.{IsSortedWithin}
use Rattle.bdb_settle.specs.Settling.{place_before}
use Rattle.bdb_settle.proofs.leads.are_sorted.Given as goal

-- None of the pairs so far stands before the one ahead of it.
abbrev pub invariant-loop-i : goal.invariant-loop-i
invariant-loop-i l = IsSortedWithin (place_before l.settings l.bytes) l.places 0 l.i
