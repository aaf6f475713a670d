use Rattle.std.proofs.Common.{◌≡◌, ℕ, List, length, map, flat_map, IfSome}
use Rattle.bdb_model.specs.of_format.Terms.{file_of, listed_pair, pairs_of}
use Rattle.bdb_file.specs.of_btree.Pairs.{AreFit, KeysFit, stored_pair}
use Rattle.bdb_onto.specs.Bases.{text_pair}
use Rattle.bdb_tool_build.specs.Copied.{ShareKeys}
use Rattle.bdb_tool_build.specs.Gathered.{AreListing, HasKey}
use Rattle.bdb_tool_build.proofs.tree.push_leaf.Given as goal

-- The pairs so far, and those of what is left, are those of the leaf; what is left follows a key, which may stand there.
abbrev pub invariant-loop-pair : goal.invariant-loop-pair
invariant-loop-pair l = record {
  image : l.all.image ≡ l.fn.all.image;
  pairs : AreListing l.fn.beside l.fn.all.gathered.pairs l.all.gathered.pairs
      (map text_pair (flat_map (listed_pair (file_of l.fn.all.image)) (pairs_of (file_of l.fn.all.image) l.fn.page)))
      (map text_pair (flat_map (listed_pair (file_of l.fn.all.image)) (map (stored_pair (file_of l.fn.all.image) l.fn.page) l.pairs)));
  keys : KeysFit (file_of l.fn.all.image) l.pairs;
  fit : AreFit (file_of l.fn.all.image) (map (stored_pair (file_of l.fn.all.image) l.fn.page) l.pairs);
  key : List ℕ;
  shares : ShareKeys key (map (stored_pair (file_of l.fn.all.image) l.fn.page) l.pairs);
  last : IfSome l.last (HasKey l.all key);
}

abbrev pub decreases-loop-pair : goal.decreases-loop-pair
decreases-loop-pair l = length l.pairs
