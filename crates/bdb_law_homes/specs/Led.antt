-- Where the first owners of a page lead, and which home it has by claims. Source: docs/FORMAT.md, "Salvage".
use Rattle.std.specs.Prelude.{◌≡◌, ◌≢◌, ◌^◌, ℕ, suc, ◌+◌, ◌<◌, ◌≤◌, false, true, List, [], ◌∷◌, ◌++◌, length, Some}
use Rattle.std.specs.List.{Contains, flat_map}
use Rattle.bdb_law_whole.specs.of_format.declared.metadata.BtreeMeta.{BtreeMeta}
use Rattle.bdb_law_whole.specs.of_format.declared.metadata.FileKind.TheVariants.{Queue}
use Rattle.bdb_law_whole.specs.of_format.declared.metadata.HashMeta.{HashMeta}
use Rattle.bdb_law_whole.specs.of_format.declared.references.Reference.{Reference}
use Rattle.bdb_law_whole.specs.of_format.Terms.{BtreeFields, File, Hash, HashFields, Item, Listed, Meta, NoType, RecnoLeaf, bucket_pages, entries_in, file_of}
use Rattle.bdb_law_whole.specs.of_format.Terms.{first_holder, has_type, has_wrong_count, header_in, inner_pages, is_head_reference, is_meta, is_recno}
use Rattle.bdb_law_whole.specs.of_format.Terms.{is_wrong_at, leaves}
use Rattle.bdb_law_whole.specs.of_format.Terms.{leaves_in, owners, page_at, reference_faults, refs, type_in}
use Rattle.bdb_law_whole.specs.of_image.Linked.{IsForest}
use Rattle.bdb_homes.specs.Claims.{Below, below_in}
use Rattle.bdb_homes.specs.Homes.{adjoins, behind, claimed_in, home, own_home, page_before, spread}
use Rattle.bdb_homes.specs.declared.home.Home.{Home}

-- a btree or hash file whose references fit, each but that to the head of a chain the only one to its page
pub record IsOwned (file : File) : Type 0 where
  pub references : reference_faults file ≡ []
  pub alone : (p q : ℕ) (r : Reference) → p ≤ file.last → Contains (refs file p) r → r.target ≡ q → is_head_reference r.sort ≡ false
      → first_holder (owners file q) ≡ Some p
  pub kind : file.kind ≢ Queue
  pub there : file.last < file.count
  pub past : (p : ℕ) → file.last < p → page_at file p ≡ NoType

-- each of these pages holds the first reference to the one before it, and the last is this metadata
abbrev pub Leads : File → ℕ → List ℕ → ℕ → Type 0
Leads file p [] meta = (p ≡ meta) × (is_meta (page_at file p) ≡ true)
Leads file p (h ∷ hs) meta = (first_holder (owners file p) ≡ Some h) × Leads file h hs meta

-- the first owners of a page lead to this metadata
pub record LeadsTo (file : File) (p meta : ℕ) : Type 0 where
  pub holders : List ℕ
  pub way : Leads file p holders meta

-- in a file whose pages are owned the home of a page by claims is the metadata to which its first owners lead
abbrev pub HomesAreOwners : Type 0
HomesAreOwners = (file : File) (p : ℕ) (home : Home) → IsOwned file → own_home file p ≡ Some home → LeadsTo file p home.meta

-- and there is one
abbrev pub OwnersLeadToOne : Type 0
OwnersLeadToOne = (file : File) (p one other : ℕ) → IsOwned file → LeadsTo file p one → LeadsTo file p other → one ≡ other

-- a page has a home by claims under this metadata, in so many turns
pub record IsUnder (file : File) (turns p meta : ℕ) : Type 0 where
  pub home : Home
  pub claimed : claimed_in turns file p ≡ Some home
  pub same : home.meta ≡ meta

-- the leaves at or below a page that metadata names have that metadata as their home
abbrev pub LeavesAreUnder : Type 0
LeavesAreUnder =
    (file : File) (levels meta : ℕ) (root : Below) (leaf : ℕ) → IsOwned file → meta ≤ file.last → is_meta (page_at file meta) ≡ true
    → Contains (below_in (page_at file meta)) root → Contains (leaves_in levels file root.page) leaf → (turns : ℕ) × (turns ≤ levels + 1)
    × IsUnder file turns leaf meta

-- the file of an image in which no row of the first five stages holds is one whose pages are owned
abbrev pub SoundFilesAreOwned : Type 0
SoundFilesAreOwned = (image : List ℕ) → IsForest image → (file_of image).kind ≢ Queue → IsOwned (file_of image)

-- a page has a home of its own or from before, in so many turns: under this metadata, and behind no record
pub record IsLed (file : File) (turns p meta : ℕ) : Type 0 where
  pub home : Home
  pub led : spread (own_home file) (page_before file) (λ p q. behind file q) turns p ≡ Some home
  pub same : home.meta ≡ meta
  pub first : home.start ≡ 0

-- the next page of a page of a bucket has that one's home
abbrev pub NextIsLed : Type 0
NextIsLed =
    (file : File) (p q turns meta : ℕ) (view : Listed Item) → IsOwned file → page_at file p ≡ Hash view → adjoins file p q ≡ true
    → first_holder (owners file q) ≡ Some p → IsLed file turns p meta → IsLed file (suc turns) q meta

-- the pages of the buckets of a table have it as their home, behind no record
abbrev pub BucketsAreOfTables : Type 0
BucketsAreOfTables =
    (file : File) (meta b p : ℕ) (table : HashMeta) → IsOwned file → page_at file meta ≡ Meta (HashFields table) → b ≤ table.max_bucket
    → Contains (bucket_pages file table b) p → home file p ≡ Some (record { meta = meta; start = 0 })

-- how many entries these pages have
abbrev pub entries_on : File → List ℕ → ℕ
entries_on file ps = length (flat_map (λ p. entries_in (page_at file p)) ps)

-- the root of a tree of records: no item of an internal page below it counts wrong, and its level is a byte
pub record IsCounted (file : File) (root : ℕ) : Type 0 where
  pub counts : (p : ℕ) → is_wrong_at file (has_wrong_count file) (inner_pages file root) p ≡ false
  pub level : (header_in (page_at file root)).level ≤ 255

-- a leaf of a recno has it as its home, behind as many records as the leaves before it have entries
abbrev pub StartsAreCounts : Type 0
StartsAreCounts =
    (image : List ℕ) (meta p : ℕ) (tree : BtreeMeta) (view : Listed Item) (before after : List ℕ) → IsForest image → (file_of image).kind ≢ Queue
    → page_at (file_of image) meta ≡ Meta (BtreeFields tree) → is_recno tree ≡ true → IsCounted (file_of image) tree.root
    → leaves (file_of image) tree.root ≡ before ++ p ∷ after → page_at (file_of image) p ≡ RecnoLeaf view → entries_on (file_of image) before < 2 ^ 32
    → home (file_of image) p ≡ Some (record { meta = meta; start = entries_on (file_of image) before })

-- a leaf of a btree has it as its home, behind no record
abbrev pub LeavesAreOfBtrees : Type 0
LeavesAreOfBtrees =
    (file : File) (meta p : ℕ) (tree : BtreeMeta) → IsOwned file → page_at file meta ≡ Meta (BtreeFields tree) → is_recno tree ≡ false
    → (header_in (page_at file tree.root)).level ≤ 255 → Contains (leaves file tree.root) p → has_type (5 ∷ 12 ∷ []) (type_in (page_at file p)) ≡ true
    → home file p ≡ Some (record { meta = meta; start = 0 })
