-- The leaves of a btree's root.
use Rattle.std.proofs.Common.{inl, ℕ, List, [], ◌∷◌, ◌++◌}
use Rattle.bdb_btree.specs.of_format.declared.metadata.BtreeMeta.{BtreeMeta}
use Rattle.bdb_btree.specs.of_format.Terms.{BtreeFields, File, file_of, head_of}
use Rattle.bdb_btree.specs.of_image.Linked.{HasMetadata, IsForest}
use Rattle.bdb_btree.proofs.of_graph.LinkedLemmas.{root_fits}
use Rattle.bdb_tree.specs.Trees.{IsRoot}
use Rattle.bdb_btree.specs.Pairs.{AreLeaves}

pub is_root : (image : List ℕ) (meta : BtreeMeta) → IsForest image → HasMetadata (file_of image) (BtreeFields meta) → IsRoot (file_of image) meta.root
is_root image meta forest has = inl (root_fits image (head_of image) meta forest.formed has)

-- the later ones of some leaves
pub suffix_leaves : (file : File) (xs ys : List ℕ) → AreLeaves file (xs ++ ys) → AreLeaves file ys
suffix_leaves file [] ys each = each
suffix_leaves file (x ∷ xs) ys each = suffix_leaves file xs ys each.1
