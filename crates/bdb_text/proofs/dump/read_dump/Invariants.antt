use Rattle.std.proofs.Common.{◌+◌, ◌≤◌, length}
use Rattle.bdb_text.specs.SectionTo.{IsTextTo}
use Rattle.bdb_text.proofs.dump.read_dump.Given as goal

-- the text begins with the sections
abbrev pub invariant-loop-rest : goal.invariant-loop-rest
invariant-loop-rest l = record {
  to : IsTextTo l.text l.earlier l.rest l.number;
  room : l.number + length l.rest ≤ 1 + length l.text;
}

abbrev pub decreases-loop-rest : goal.decreases-loop-rest
decreases-loop-rest l = length l.rest
