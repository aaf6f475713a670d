use Rattle.std.proofs.Common.{length}
use Rattle.bdb_overflow.specs.Runs.{HaveOrderOf, run_seen}
use Rattle.bdb_overflow.proofs.run.compare_runs.Given as goal

-- What is left compares as the whole does.
abbrev pub invariant-loop-b : goal.invariant-loop-b
invariant-loop-b l = HaveOrderOf (run_seen l.a) (run_seen l.b) (run_seen l.fn.a) (run_seen l.fn.b)

abbrev pub decreases-loop-b : goal.decreases-loop-b
decreases-loop-b l = length (run_seen l.a)
