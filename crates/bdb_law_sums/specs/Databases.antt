-- What the databases of a file hold together, and what its pages do. Source: docs/FORMAT.md, "Lists of databases" and "Salvage".
use Rattle.std.specs.Option.{option_to_list}
use Rattle.std.specs.Prelude.{◌≡◌, ◌≢◌, ℕ, ◌+◌, ◌*◌, ◌<◌, ◌≤◌, if◌then◌else◌, Bool, true, List, [], ◌++◌, map, length, get_or}
use Rattle.std.specs.Prelude.{Option, Some, None}
use Rattle.std.specs.List.{Contains, flat_map, range_with_len, sum_by}
use Rattle.bdb_tree.specs.of_format.declared.metadata.BtreeMeta.{BtreeMeta}
use Rattle.bdb_tree.specs.of_format.declared.metadata.FileKind.TheVariants.{Queue}
use Rattle.bdb_tree.specs.of_format.Terms.{BtreeFields, BytesKey, Database, File, HashFields, ListKey, Metadata, NumberKey, QueueFields, StoredPair, Tree}
use Rattle.bdb_tree.specs.of_format.Terms.{btree_list, bucket_pages, data_of, databases, fields_of, file_of, is_spare, leaves, list_of, live_values}
use Rattle.bdb_tree.specs.of_format.Terms.{master_faults, master_in, no_item, page_at, pairs_of, structure_faults}
use Rattle.bdb_tree.specs.of_image.Linked.{FitsDupRoot, FitsTreeRoot, IsForest}
use Rattle.bdb_tree.specs.Noted.{paired}
use Rattle.bdb_law_sums.specs.HashSums.{is_hash_page}
use Rattle.bdb_law_sums.specs.TreeSums.{leaf_weight}

-- no row of the first seven stages holds, and the file is one of trees and tables
pub record IsSoundForest (image : List ℕ) : Type 0 where
  pub forest : IsForest image
  pub structure : structure_faults (file_of image) ≡ []
  pub master : master_faults (file_of image) ≡ []
  pub kind : (file_of image).kind ≢ Queue

-- The lists of all databases.

abbrev pub master_list : File → Option BtreeMeta → List (ListKey × List ℕ)
master_list file None = []
master_list file (Some meta) = btree_list file meta.root

-- the lists of all databases one behind the other, that of a master first
unfoldable pub all_lists : File → List (ListKey × List ℕ)
all_lists file = master_list file (master_in (page_at file 0)) ++ flat_map (λ (database : Database). list_of file database.fields) (databases file)

-- what a key of bytes with its value weighs; a numbered record weighs nothing
abbrev pub by_bytes : (List ℕ × List ℕ → ℕ) → ListKey × List ℕ → ℕ
by_bytes weight (BytesKey key, value) = weight (key, value)
by_bytes weight (NumberKey number, value) = 0

-- what a numbered record weighs by its value; a key of bytes weighs nothing
abbrev pub by_value : (List ℕ → ℕ) → ListKey × List ℕ → ℕ
by_value weight (BytesKey key, value) = 0
by_value weight (NumberKey number, value) = weight value

-- The metadata.

-- that of a master
abbrev pub master_fields : Option BtreeMeta → List Metadata
master_fields meta = map BtreeFields (option_to_list meta)

-- that of the master, and that of the databases
abbrev pub named_fields : File → List Metadata
named_fields file = master_fields (master_in (page_at file 0)) ++ map (λ (database : Database). database.fields) (databases file)

-- Each metadata page is that of the master or of one database: whatever metadata weighs, that of all pages weighs what theirs does.
abbrev pub MetadataAreDatabases : Type 0
MetadataAreDatabases =
    (image : List ℕ) (weight : Metadata → ℕ) → IsSoundForest image
    → sum_by weight (fields_of (file_of image)) ≡ sum_by weight (named_fields (file_of image))

-- The pages.

-- the leaves of metadata's root
abbrev pub leaves_below : File → Metadata → List ℕ
leaves_below file (BtreeFields meta) = leaves file meta.root
leaves_below file (HashFields meta) = []
leaves_below file (QueueFields meta) = []

-- the pages of its buckets
abbrev pub buckets_below : File → Metadata → List ℕ
buckets_below file (BtreeFields meta) = []
buckets_below file (HashFields meta) = flat_map (bucket_pages file meta) (range_with_len 0 (meta.max_bucket + 1))
buckets_below file (QueueFields meta) = []

-- Where the leaves of sets off the page weigh nothing, all leaves weigh what those below metadata do.
abbrev pub LeavesAreOfDatabases : Type 0
LeavesAreOfDatabases =
    (image : List ℕ) (weight : ℕ → ℕ) → IsForest image → (file_of image).kind ≢ Queue
    → ((root : ℕ) → FitsDupRoot (file_of image) root → sum_by weight (leaves (file_of image) root) ≡ 0)
    → sum_by (leaf_weight (file_of image) weight) (range_with_len 0 ((file_of image).last + 1))
    ≡ sum_by (λ fields. sum_by weight (leaves_below (file_of image) fields)) (fields_of (file_of image))

-- Where the pages that a table may hold in reserve weigh nothing, all hash pages weigh what the buckets of metadata do.
abbrev pub HashPagesAreOfTables : Type 0
HashPagesAreOfTables =
    (image : List ℕ) (weight : ℕ → ℕ) → IsForest image → (file_of image).kind ≢ Queue
    → ((p : ℕ) → p ≤ (file_of image).last → is_spare (page_at (file_of image) p) ≡ true → weight p ≡ 0)
    → sum_by (λ p. if is_hash_page (file_of image) p then weight p else 0) (range_with_len 0 ((file_of image).last + 1))
    ≡ sum_by (λ fields. sum_by weight (buckets_below (file_of image) fields)) (fields_of (file_of image))

-- The pairs.

-- a live pair gives its key with each of its data
abbrev pub given_pair : File → StoredPair → List (List ℕ × List ℕ)
given_pair file pair = if pair.live then map (λ value. (pair.key, value)) (data_of file pair.data_item) else []

-- what the pairs of a page give
abbrev pub given_on : File → ℕ → List (List ℕ × List ℕ)
given_on file p = flat_map (given_pair file) (pairs_of file p)

-- Whatever keys with their values weigh, those that all pages give weigh what those of all lists do.
abbrev pub PairsAreOfDatabases : Type 0
PairsAreOfDatabases =
    (image : List ℕ) (weight : List ℕ × List ℕ → ℕ) → IsSoundForest image
    → sum_by weight (flat_map (given_on (file_of image)) (range_with_len 0 ((file_of image).last + 1)))
    ≡ sum_by (by_bytes weight) (all_lists (file_of image))

-- The records.

-- a page is a leaf of a set off the page
pub record IsOfSet (file : File) (p : ℕ) : Type 0 where
  pub root : ℕ
  pub set : FitsDupRoot file root
  pub leaf : Contains (leaves file root) p

-- this test passes the leaves of sets off the page and no other page
pub record IsOfSets (file : File) (taken : ℕ → Bool) : Type 0 where
  pub all : (p : ℕ) → IsOfSet file p → taken p ≡ true
  pub only : (p : ℕ) → taken p ≡ true → IsOfSet file p

-- the live values of a page that isn't taken
abbrev pub left_on : File → (ℕ → Bool) → ℕ → List (List ℕ)
left_on file taken p = if taken p then [] else live_values file (page_at file p)

-- Whatever values weigh, those that stand in no set off the page weigh what those of the numbered records of all lists do.
abbrev pub RecordsAreOfDatabases : Type 0
RecordsAreOfDatabases =
    (image : List ℕ) (weight : List ℕ → ℕ) (taken : ℕ → Bool) → IsSoundForest image → IsOfSets (file_of image) taken
    → sum_by weight (flat_map (left_on (file_of image) taken) (range_with_len 0 ((file_of image).last + 1)))
    ≡ sum_by (by_value weight) (all_lists (file_of image))

-- the root of a set off the page stands in the data item of a pair
pub record IsSetOfPair (file : File) (root : ℕ) : Type 0 where
  pub page : ℕ
  pub inside : page ≤ file.last
  pub index : ℕ
  pub below : 2 * index + 1 < length (paired (page_at file page))
  pub names : (get_or (paired (page_at file page)) (2 * index + 1) no_item).content ≡ Tree root

-- Each set off the page is that of a pair.
abbrev pub SetsAreOfPairs : Type 0
SetsAreOfPairs = (image : List ℕ) (root : ℕ) → IsForest image → FitsDupRoot (file_of image) root → IsSetOfPair (file_of image) root

-- A leaf of a set stands below no metadata.
abbrev pub NoLeafOfBoth : Type 0
NoLeafOfBoth =
    (image : List ℕ) (root set q : ℕ) → IsForest image → FitsTreeRoot (file_of image) root → FitsDupRoot (file_of image) set
    → Contains (leaves (file_of image) root) q → Contains (leaves (file_of image) set) q → ⊥
