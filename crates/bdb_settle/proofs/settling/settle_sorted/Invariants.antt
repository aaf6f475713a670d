use Rattle.bdb_settle.specs.Settling.{IsSettledAt}
use Rattle.bdb_settle.proofs.settling.settle_sorted.Given as goal

-- The places so far are those of the list, but for the last one.
abbrev pub invariant-loop-i : goal.invariant-loop-i
invariant-loop-i l = IsSettledAt l.settings l.bytes l.fn.places.items l.places.items l.kept l.last l.i
