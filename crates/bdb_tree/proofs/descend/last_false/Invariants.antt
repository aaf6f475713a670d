use Rattle.std.proofs.Common.{◌-◌}
use Rattle.bdb_tree.proofs.DescentLemmas.{IsBetween}
use Rattle.bdb_tree.proofs.descend.last_false.Given as goal

-- The last item for which the test is false is at `low` or between the two.
abbrev pub invariant-loop-low : goal.invariant-loop-low
invariant-loop-low g l = IsBetween (g.T.Separate.says l.test) l.page.items l.low l.high

abbrev pub decreases-loop-low : goal.decreases-loop-low
decreases-loop-low g l = l.high - l.low
