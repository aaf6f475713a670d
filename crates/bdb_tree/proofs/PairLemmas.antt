-- The pairs of a tree, and of a master, stand on pages of the file.
use Rattle.std.proofs.Common.{◌≡◌, ℕ, ◌≤◌, List, [], Some, None, arith, refl, sym, ap, inl, Contains}
use Rattle.bdb_overflow.specs.of_format.declared.metadata.BtreeMeta.{BtreeMeta}
use Rattle.bdb_overflow.specs.of_format.Terms.{BtreeFields, File, Hash, Leaf, Page, StoredPair, file_of, head_of, leaves, master_in, master_pairs, page_at}
use Rattle.bdb_overflow.specs.of_format.Terms.{pairs_in, pairs_of, pairs_under, tree_pairs}
use Rattle.bdb_overflow.proofs.of_format.MemberLemmas.{no_member, of_filter, of_flat_map, of_map}
use Rattle.bdb_overflow.specs.of_image.Linked.{HasMetadata, IsForest}
use Rattle.bdb_overflow.proofs.of_graph.LinkedLemmas.{root_fits}
use Rattle.bdb_overflow.proofs.of_graph.ReadLemmas.{master_is}
use Rattle.bdb_tree.proofs.TreeLemmas.{leaf_low, root_is_tree}

-- a pair of a page says so
pair_page : (file : File) (p : ℕ) (page : Page) (pair : StoredPair) → Contains (pairs_in file p page) pair → pair.page ≡ p
pair_page file p (Leaf page) pair at = let found = of_map _ _ pair at in ap (λ (pair : StoredPair). pair.page) (sym found.2)
pair_page file p (Hash page) pair at = let found = of_map _ _ pair at in ap (λ (pair : StoredPair). pair.page) (sym found.2)
pair_page file p page pair at = absurd (no_member [] pair refl at)

pub tree_pair_inside : (image : List ℕ) (meta : BtreeMeta) (pair : StoredPair) → IsForest image → HasMetadata (file_of image) (BtreeFields meta)
    → Contains (tree_pairs (file_of image) meta.root) pair → pair.page ≤ (file_of image).last
unfolding tree_pairs pairs_of
tree_pair_inside image meta pair forest has at =
    let file : File = file_of image in
    let found = of_flat_map (pairs_of file) (leaves file meta.root) pair at in
    let low : found.0 ≤ file.last =
    leaf_low image meta.root found.0 forest (root_is_tree image meta.root forest (inl (root_fits image (head_of image) meta forest.formed has)))
    found.1 in
    omega (arith, low, pair_page file found.0 (page_at file found.0) pair found.2)

pub master_pair_inside : (image : List ℕ) (pair : StoredPair) → IsForest image → Contains (master_pairs (file_of image)) pair
    → pair.page ≤ (file_of image).last
unfolding master_pairs
master_pair_inside image pair forest at =
    let file : File = file_of image in
    elim (master_in (page_at file 0)) as (λ master. master_in (page_at file 0) ≡ master → Contains (pairs_under file master) pair
    → pair.page ≤ file.last) [
      | None ↦ λ is none. absurd (no_member [] pair refl none)
      | Some meta ↦ λ is some.
          let held = of_filter (λ (pair : StoredPair). pair.live) (tree_pairs file meta.root) pair some in
          tree_pair_inside image meta pair forest (record { page = 0; inside = omega arith; is = master_is (page_at file 0) meta is }) held.0
    ] refl at
