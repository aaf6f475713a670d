-- Of what each leaf and each hash page of a sound file is. Source: docs/FORMAT.md, "Stage 4, ownership".
use Rattle.std.specs.Prelude.{◌≡◌, ◌≢◌, ◌⊎◌, ℕ, ◌≤◌, false, true, List, [], ◌∷◌, Some}
use Rattle.std.specs.List.{Contains}
use Rattle.bdb_law_whole.specs.of_format.declared.metadata.BtreeMeta.{BtreeMeta}
use Rattle.bdb_law_whole.specs.of_format.declared.metadata.FileKind.TheVariants.{Queue}
use Rattle.bdb_law_whole.specs.of_format.declared.metadata.HashMeta.{HashMeta}
use Rattle.bdb_law_whole.specs.of_format.Terms.{BtreeFields, File, HashFields, Item, Leaf, Listed, Meta, bucket_pages, file_of, has_type, header_in, is_recno}
use Rattle.bdb_law_whole.specs.of_format.Terms.{is_spare, leaves, page_at, pairs_of, type_in}
use Rattle.bdb_law_whole.specs.of_image.Linked.{IsForest}
use Rattle.bdb_homes.specs.Homes.{home}
use Rattle.bdb_law_whole.specs.of_law_sums.Databases.{IsOfSet, IsSoundForest}
use Rattle.bdb_law_whole.specs.of_law_sums.HashSums.{is_hash_page}

-- a page is a leaf of the tree of metadata
pub record IsLeafOf (file : File) (p : ℕ) : Type 0 where
  pub meta : ℕ
  pub tree : BtreeMeta
  pub at : page_at file meta ≡ Meta (BtreeFields tree)
  pub leaf : Contains (leaves file tree.root) p

-- a page is one of a bucket of a table
pub record IsPageOf (file : File) (p : ℕ) : Type 0 where
  pub meta : ℕ
  pub table : HashMeta
  pub bucket : ℕ
  pub at : page_at file meta ≡ Meta (HashFields table)
  pub within : bucket ≤ table.max_bucket
  pub page : Contains (bucket_pages file table bucket) p

-- each leaf is one of a tree of metadata, or of a set
abbrev pub LeavesAreOfOne : Type 0
LeavesAreOfOne =
    (image : List ℕ) (p : ℕ) → IsForest image → (file_of image).kind ≢ Queue → p ≤ (file_of image).last
    → has_type (5 ∷ 6 ∷ 12 ∷ []) (type_in (page_at (file_of image) p)) ≡ true → IsLeafOf (file_of image) p ⊎ IsOfSet (file_of image) p

-- each hash page that isn't empty by itself is one of a bucket
abbrev pub HashPagesAreOfOne : Type 0
HashPagesAreOfOne =
    (image : List ℕ) (p : ℕ) → IsForest image → (file_of image).kind ≢ Queue → p ≤ (file_of image).last → is_hash_page (file_of image) p ≡ true
    → is_spare (page_at (file_of image) p) ≡ false → IsPageOf (file_of image) p

-- a page has the database as its home whose leaf it is
pub record HasTree (file : File) (p : ℕ) : Type 0 where
  pub of : IsLeafOf file p
  pub recno : is_recno of.tree ≡ false
  pub is : home file p ≡ Some (record { meta = of.meta; start = 0 })

-- the levels of pages are bytes
abbrev pub HasByteLevels : File → Type 0
HasByteLevels file = (p : ℕ) → (header_in (page_at file p)).level ≤ 255

-- each leaf with pairs is one of a btree, which is its home
abbrev pub PairLeavesHaveHomes : Type 0
PairLeavesHaveHomes =
    (image : List ℕ) (p : ℕ) (view : Listed Item) → IsSoundForest image → HasByteLevels (file_of image) → p ≤ (file_of image).last
    → page_at (file_of image) p ≡ Leaf view → pairs_of (file_of image) p ≢ [] → HasTree (file_of image) p

-- a page has the table as its home in whose bucket it stands
pub record HasTable (file : File) (p : ℕ) : Type 0 where
  pub of : IsPageOf file p
  pub is : home file p ≡ Some (record { meta = of.meta; start = 0 })

-- and so has each hash page that isn't empty by itself
abbrev pub HashPagesHaveHomes : Type 0
HashPagesHaveHomes =
    (image : List ℕ) (p : ℕ) → IsForest image → (file_of image).kind ≢ Queue → p ≤ (file_of image).last → is_hash_page (file_of image) p ≡ true
    → is_spare (page_at (file_of image) p) ≡ false → HasTable (file_of image) p
