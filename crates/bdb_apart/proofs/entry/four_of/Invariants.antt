use Rattle.std.specs.Prelude.{◌≡◌, ◌≤◌, ◌++◌, length, take}
use Rattle.bdb_rescue.specs.of_format.Terms.{joined}
use Rattle.bdb_apart.proofs.entry.four_of.Given as goal

-- What is put, and the pieces that are left, are all.
abbrev pub invariant-loop-piece : goal.invariant-loop-piece
invariant-loop-piece l = record {
  len : length l.four ≡ 4;
  within : l.at ≤ 4;
  parts : take l.at l.four ++ joined l.piece-iterator ≡ joined l.fn.pieces;
}
