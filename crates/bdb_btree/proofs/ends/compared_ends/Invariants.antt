use Rattle.std.proofs.Common.{◌≡◌, map, fold}
use Rattle.bdb_ranks.specs.of_format.Terms.{file_of, tree_pairs}
use Rattle.bdb_btree.specs.Bounds.{ends_of, widen_by}
use Rattle.bdb_btree.specs.Held.{AreKeyed, FitsEnds, ends_seen, stored_as}
use Rattle.bdb_btree.proofs.ends.compared_ends.Given as goal

-- What is kept and the pairs that are left make up the whole.
abbrev pub invariant-loop-pair : goal.invariant-loop-pair
invariant-loop-pair l = record {
  ends : fold widen_by (ends_seen (file_of l.fn.known) l.ends) (map (stored_as (file_of l.fn.known)) l.pair-iterator)
      ≡ ends_of (tree_pairs (file_of l.fn.known) l.leaf);
  fits : FitsEnds (file_of l.fn.known) l.ends;
  keyed : AreKeyed (file_of l.fn.known) l.pair-iterator;
  same : l.known ≡ l.fn.known;
}
