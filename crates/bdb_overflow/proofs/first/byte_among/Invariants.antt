use Rattle.std.proofs.Common.{◌≡◌, get_or}
use Rattle.bdb_graph.specs.of_format.Terms.{joined}
use Rattle.bdb_overflow.proofs.first.byte_among.Given as goal

-- The byte is among those of the pieces that are left.
abbrev pub invariant-loop-piece : goal.invariant-loop-piece
invariant-loop-piece l = get_or (joined l.piece-iterator) l.left 0 ≡ get_or (joined l.fn.pieces) l.fn.index 0
