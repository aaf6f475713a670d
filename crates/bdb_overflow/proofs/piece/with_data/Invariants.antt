use Rattle.std.proofs.Common.{◌≡◌, length}
use Rattle.bdb_overflow.specs.Taken.{full_pieces}
use Rattle.bdb_overflow.specs.Whole.{IsLeft, pieces_from}
use Rattle.bdb_overflow.proofs.piece.with_data.Given as goal

-- What was passed has no bytes.
pub record IsPassed (rest : Type 0) (bytes : Type 0) : Type 0 where
  pub left : rest
  pub same : bytes

abbrev pub invariant-loop-at : goal.invariant-loop-at
invariant-loop-at l =
    IsPassed (IsLeft l.order l.size l.image l.at)
    (full_pieces (pieces_from l.order l.size l.image l.at) ≡ full_pieces (pieces_from l.order l.size l.image l.from))

abbrev pub decreases-loop-at : goal.decreases-loop-at
decreases-loop-at l = length (pieces_from l.order l.size l.image l.at)
