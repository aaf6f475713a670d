use Rattle.std.proofs.Common.{◌≡◌, fold}
use Rattle.bdb_tree.specs.of_overflow.Datum.{datum_seen}
use Rattle.bdb_tree.specs.of_format.Terms.{hash5, hash_step, joined}
use Rattle.bdb_buckets.proofs.key.hash_of.Given as goal

-- The pieces that are left, after the hash of those passed.
abbrev pub invariant-loop-piece : goal.invariant-loop-piece
invariant-loop-piece l = fold hash_step l.hash (joined l.piece-iterator) ≡ hash5 (datum_seen l.fn.key)
