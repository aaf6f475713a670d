use Rattle.std.proofs.Common.{◌≡◌, ◌+◌, length}
use Rattle.bdb_graph.specs.of_format.Terms.{joined}
use Rattle.bdb_overflow.proofs.piece.have_length.Given as goal

-- What was taken off so far is what the pieces had that were passed.
abbrev pub invariant-loop-piece : goal.invariant-loop-piece
invariant-loop-piece l = l.left + length (joined l.fn.pieces) ≡ l.len + length (joined l.piece-iterator)
