use Rattle.std.proofs.Common.{◌≡◌, ◌++◌}
use Rattle.bdb_graph.specs.of_format.Terms.{joined}
use Rattle.bdb_overflow.proofs.datum.put_pieces.Given as goal

-- What is in the room, and what is left, is all.
abbrev pub invariant-loop-piece : goal.invariant-loop-piece
invariant-loop-piece l = l.room.items ++ joined l.piece-iterator ≡ joined l.fn.pieces
