use Rattle.std.proofs.Common.{◌*◌}
use Rattle.bdb_stat.specs.Marked.{marks_of}
use Rattle.bdb_stat.specs.Starts.{NoStart}
use Rattle.bdb_stat.proofs.marks.first_from.Given as goal

-- The words so far have no mark.
abbrev pub invariant-loop-i : goal.invariant-loop-i
invariant-loop-i l = NoStart (marks_of l.words) (64 * l.number) (64 * l.i)
