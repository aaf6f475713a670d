use Rattle.std.proofs.Common.{◌-◌, length}
use Rattle.bdb_graph.proofs.LeapLemmas.{IsOpening}
use Rattle.bdb_graph.proofs.leaps.first_open.Given as goal

-- All pages so far are leapt over.
abbrev pub invariant-loop-at : goal.invariant-loop-at
invariant-loop-at l = IsOpening l.fn.leaps l.leaps l.from l.at

abbrev pub decreases-loop-at : goal.decreases-loop-at
decreases-loop-at l = length l.leaps - l.at
