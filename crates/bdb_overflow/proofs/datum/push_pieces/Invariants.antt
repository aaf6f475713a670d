use Rattle.std.proofs.Common.{◌≡◌, ◌++◌}
use Rattle.bdb_graph.specs.of_format.Terms.{joined}
use Rattle.bdb_overflow.proofs.datum.push_pieces.Given as goal

-- What was added, and what is left, is all.
abbrev pub invariant-loop-piece : goal.invariant-loop-piece
invariant-loop-piece l = l.bytes ++ joined l.piece-iterator ≡ l.initial.bytes ++ joined l.fn.pieces
