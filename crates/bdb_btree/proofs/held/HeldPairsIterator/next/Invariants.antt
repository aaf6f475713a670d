use Rattle.std.proofs.Common.{◌≡◌, length}
use Rattle.bdb_ranks.specs.of_format.Terms.{file_of}
use Rattle.bdb_btree.specs.Held.{items_left}
use Rattle.bdb_btree.specs.Pairs.{AreLeaves}
use Rattle.bdb_btree.proofs.held.HeldPairsIterator.next.Given as goal

-- As many pairs are left as at the beginning.
abbrev pub invariant-loop-pair : goal.invariant-loop-pair
invariant-loop-pair l = record {
  left : items_left (file_of l.self-inside.forest) l.self-inside.here l.self-inside.leaves
      ≡ items_left (file_of l.initial.self-inside.forest) l.initial.self-inside.here l.initial.self-inside.leaves;
  leaves : AreLeaves (file_of l.self-inside.forest) l.self-inside.leaves;
}

abbrev pub decreases-loop-pair : goal.decreases-loop-pair
decreases-loop-pair l = length l.self-inside.leaves
