use Rattle.std.proofs.Common.{◌≡◌, ◌++◌}
use Rattle.bdb_text_format.specs.of_format.Terms.{joined}
use Rattle.bdb_rescue.proofs.thin.push_pieces.Given as goal

-- What was added, and what is left, is all.
abbrev pub invariant-loop-piece : goal.invariant-loop-piece
invariant-loop-piece l = l.bytes.items ++ joined l.piece-iterator ≡ l.initial.bytes.items ++ joined l.fn.pieces
