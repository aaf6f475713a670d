use Rattle.std.proofs.Common.{◌≡◌, ◌+◌, length}
use Rattle.bdb_graph.specs.of_format.Terms.{joined}
use Rattle.bdb_overflow.proofs.piece.length_of.Given as goal

-- What was counted, and what is left, is all.
abbrev pub invariant-loop-piece : goal.invariant-loop-piece
invariant-loop-piece l = l.total + length (joined l.piece-iterator) ≡ length (joined l.fn.pieces)
