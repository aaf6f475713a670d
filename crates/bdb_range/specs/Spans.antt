-- Leaves that cover a range of keys. Source: docs/FORMAT.md, "Stage 8, contents".
use Rattle.std.specs.Prelude.{◌≡◌, ◌≤◌, ℕ, ◌+◌, Bool, true, false, List, ◌∷◌, ◌++◌, [], length, take}
use Rattle.std.specs.List.{Contains, flat_map, prefix_len}
use Rattle.bdb_btree.specs.of_format.declared.metadata.BtreeMeta.{BtreeMeta}
use Rattle.bdb_btree.specs.of_format.Terms.{BtreeFields, File, StoredPair, btree_list, database_faults, file_of, header_in, is_recno, leaves, less}
use Rattle.bdb_btree.specs.of_format.Terms.{listed_pair, page_at, pairs_of, tree_pairs}
use Rattle.bdb_btree.specs.of_image.Linked.{HasMetadata, IsForest}
use Rattle.bdb_tree.specs.Descent.{descent}
use Rattle.bdb_btree.specs.Search.{is_below}
use Rattle.bdb_range.specs.Ranges.{in_range, lies_between}
use Rattle.bdb_range.specs.InRange.{empty_leaves, holding_leaves, pairs_between}

-- The leaf to which a descent leads, among the leaves of its tree: keys before it are less than the sought one, those after it aren't.
pub record Splits (file : File) (root : ℕ) (key : List ℕ) (leaf : ℕ) : Type 0 where
  pub before : List ℕ
  pub after : List ℕ
  pub are : leaves file root ≡ before ++ (leaf ∷ after)
  pub lower : (p : ℕ) (pair : StoredPair) → Contains before p → Contains (pairs_of file p) pair → less pair.key key ≡ true
  pub upper : (p : ℕ) (pair : StoredPair) → Contains after p → Contains (pairs_of file p) pair → less pair.key key ≡ false

abbrev pub DescentsSplit : Type 0
DescentsSplit =
    (image : List ℕ) (meta : BtreeMeta) (key : List ℕ) → IsForest image → HasMetadata (file_of image) (BtreeFields meta) → is_recno meta ≡ false
    → database_faults (file_of image) (BtreeFields meta) ≡ []
    → Splits (file_of image) meta.root key
    (descent (header_in (page_at (file_of image) meta.root)).level (file_of image) (is_below (file_of image) key) meta.root)

-- So many leaves from a first one on are there in a tree, and each pair of the tree with a key in the range stands on one of them.
pub record Covers (file : File) (root first count : ℕ) (from to : List ℕ) : Type 0 where
  pub before : List ℕ
  pub rest : List ℕ
  pub are : leaves file root ≡ before ++ rest
  pub begins : (others : List ℕ) × (rest ≡ first ∷ others)
  pub there : count ≤ length rest
  pub all : (p : ℕ) (pair : StoredPair) → Contains (leaves file root) p → Contains (pairs_of file p) pair → lies_between from to pair.key ≡ true
      → Contains (take count rest) p

-- The list of the pairs in a range is the range of the list.
abbrev pub ListsAreFiltered : Type 0
ListsAreFiltered =
    (file : File) (root : ℕ) (from to : List ℕ)
    → in_range (btree_list file root) from to ≡ flat_map (listed_pair file) (pairs_between from to (tree_pairs file root))

-- Where leaves cover a range, the pairs in the range are theirs.
abbrev pub SpansGiveRanges : Type 0
SpansGiveRanges =
    (image : List ℕ) (root first count : ℕ) (from to : List ℕ) → IsForest image → root ≤ (file_of image).last
    → (span : Covers (file_of image) root first count from to)
    → pairs_between from to (tree_pairs (file_of image) root)
    ≡ pairs_between from to (flat_map (pairs_of (file_of image)) (take count span.rest))

-- Which leaves a span has.

-- a walk of leaves goes on over a leaf without pairs, or one whose first key is less than the bound
abbrev pub begins_below : List ℕ → List StoredPair → Bool
begins_below to [] = true
begins_below to (pair ∷ pairs) = less pair.key to

abbrev pub goes_on : File → List ℕ → ℕ → Bool
goes_on file to p = begins_below to (pairs_of file p)

-- The leaf of a descent and the leaves over which a walk goes on from it cover the range.
abbrev pub WalksCover : Type 0
WalksCover =
    (image : List ℕ) (meta : BtreeMeta) (from to : List ℕ) (leaf : ℕ) → IsForest image → HasMetadata (file_of image) (BtreeFields meta) → is_recno meta ≡ false
    → database_faults (file_of image) (BtreeFields meta) ≡ [] → (split : Splits (file_of image) meta.root from leaf)
    → Covers (file_of image) meta.root leaf (1 + prefix_len (goes_on (file_of image) to) split.after) from to

-- They are no more than the leaves that hold a pair in the range, those without pairs, and 1.
abbrev pub WalksAreShort : Type 0
WalksAreShort =
    (file : File) (root : ℕ) (from to : List ℕ) (leaf : ℕ) (split : Splits file root from leaf)
    → prefix_len (goes_on file to) split.after ≤ holding_leaves file root from to + empty_leaves file root
