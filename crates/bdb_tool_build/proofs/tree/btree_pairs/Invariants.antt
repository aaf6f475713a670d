use Rattle.std.proofs.Common.{◌≡◌, [], length, map, flat_map}
use Rattle.bdb_model.specs.of_format.Terms.{btree_list, file_of, listed_pair, pairs_of}
use Rattle.bdb_file.specs.of_btree.Pairs.{AreLeaves}
use Rattle.bdb_onto.specs.Bases.{text_pair}
use Rattle.bdb_tool_build.specs.Copied.{Follow}
use Rattle.bdb_tool_build.specs.Gathered.{AreListing}
use Rattle.bdb_tool_build.proofs.tree.btree_pairs.Given as goal

-- The pairs so far, and those of the leaves that are left, are those of the tree.
abbrev pub invariant-loop-leaf : goal.invariant-loop-leaf
invariant-loop-leaf l = record {
  image : l.all.image ≡ l.fn.linked;
  pairs : AreListing l.fn.beside [] l.all.gathered.pairs (map text_pair (btree_list (file_of l.fn.linked) l.fn.meta.root))
      (map text_pair (flat_map (listed_pair (file_of l.fn.linked)) (flat_map (pairs_of (file_of l.fn.linked)) l.leaves)));
  leaves : AreLeaves (file_of l.fn.linked) l.leaves;
  follow : Follow (flat_map (pairs_of (file_of l.fn.linked)) l.leaves);
}

abbrev pub decreases-loop-leaf : goal.decreases-loop-leaf
decreases-loop-leaf l = length l.leaves
