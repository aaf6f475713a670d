use Rattle.std.proofs.Common.{◌≡◌, length}
use Rattle.bdb_overflow.specs.Runs.{run_seen}
use Rattle.bdb_overflow.proofs.run.Remainder.fill.Given as goal

-- The same bytes are left.
abbrev pub invariant-loop-self : goal.invariant-loop-self
invariant-loop-self l = run_seen l.self ≡ run_seen l.initial.self

abbrev pub decreases-loop-self : goal.decreases-loop-self
decreases-loop-self l = length l.self.rest
