-- Tables in a file: keys with their data on the pages of buckets, and the part of a database that they are.
-- Source: docs/FORMAT.md, "Built tables", "Hash formulas" and "Stage 8, contents".
use Rattle.std.specs.Prelude.{◌≡◌, ℕ, ◌+◌, ◌-◌, ◌/◌, ◌^◌, ◌≤◌, ◌==◌, if◌then◌else◌, Bool, true, false, List, [], ◌∷◌, ◌++◌, length, map, replicate, Some}
use Rattle.std.specs.Prelude.{is_some}
use Rattle.std.specs.List.{All, Contains, filter, flat_map, range_with_len}
use Rattle.bdb_law_grove.specs.of_format.declared.metadata.HashMeta.{HashMeta}
use Rattle.bdb_law_grove.specs.of_format.declared.settings.Settings.{Settings}
use Rattle.bdb_law_grove.specs.of_format.Terms.{BtreeFields, BytesKey, Chain, Content, File, HashFields, Inline, ListKey, Metadata, QueueFields, Set}
use Rattle.bdb_law_grove.specs.of_format.Terms.{StoredPair, Tree, Unknown, ascends, bucket, bucket_pages, bucket_pairs, children_in, data_of, hash5, header_in}
use Rattle.bdb_law_grove.specs.of_format.Terms.{is_set, is_wrong_set, page_at, type_in, value_of}
use Rattle.bdb_law_grove.specs.Growing.{IsCounted}
use Rattle.bdb_law_grove.specs.Leaves.{AscendIn, ContentFits, content_pages}
use Rattle.bdb_law_grove.specs.Part.{IsBranch, IsPart, between}
use Rattle.bdb_law_buckets.specs.Pages.{IsHashIn}

-- a key with all its data
pub record Keyed : Type 0 where
  pub key : List ℕ
  pub values : List (List ℕ)

abbrev pub key_of : Keyed → List ℕ
key_of unit = unit.key

-- the pairs of keys, in their order
abbrev pub listed_unit : Keyed → List (ListKey × List ℕ)
listed_unit unit = map (λ value. (BytesKey unit.key, value)) unit.values

-- The bucket of a key, where there are as many as a number of bits can tell.
abbrev pub bucket_among : ℕ → List ℕ → ℕ
bucket_among bits key = bucket (hash5 key) (2 ^ bits - 1) (2 ^ bits - 1) (2 ^ bits / 2 - 1)

-- the keys of a bucket, in their order
abbrev pub dealt : ℕ → List Keyed → ℕ → List Keyed
dealt bits units b = filter (λ (unit : Keyed). bucket_among bits unit.key == b) units

-- the metadata of a table whose buckets' first pages follow each other from a page on
abbrev pub table_meta : Settings → ℕ → ℕ → HashMeta
table_meta settings first bits = record {
  flags = (if settings.duplicates then 0x01 else 0) + (if settings.sorted then 0x04 else 0);
  max_bucket = 2 ^ bits - 1;
  high_mask = 2 ^ bits - 1;
  low_mask = 2 ^ bits / 2 - 1;
  ffactor = settings.ffactor;
  spares = replicate (bits + 1) first ++ replicate (31 - bits) 0;
  free = 0;
}

-- what the settings of a database ask of its keys: they ascend; several data stand only where duplicates may, and ascend where they are sorted
pub record SuitsTable (settings : Settings) (units : List Keyed) : Type 0 where
  pub keys : ascends (map key_of units) ≡ true
  pub single : settings.duplicates ≡ false → All (λ (unit : Keyed). length unit.values ≡ 1) units
  pub in_order : settings.sorted ≡ true → All (λ (unit : Keyed). ascends unit.values ≡ true) units

-- A key that stands on a page: the items of it and of its data, and the number behind the pages of its own.
pub record PlacedUnit : Type 0 where
  pub unit : Keyed
  pub key_item : Content
  pub data_item : Content
  pub beyond : ℕ

abbrev pub unit_of : PlacedUnit → Keyed
unit_of placed = placed.unit

abbrev pub contents_of : PlacedUnit → List Content
contents_of placed = placed.key_item ∷ placed.data_item ∷ []

-- all items of some keys
abbrev pub contents_on : List PlacedUnit → List Content
contents_on units = flat_map contents_of units

-- the root of a tree of data that stands over leaves says how many data there are, where other pages have the one before them
abbrev pub HasSum : File → Content → Type 0
HasSum g (Inline bytes) = Unit {0}
HasSum g (Set blocks) = Unit {0}
HasSum g (Chain head total) = Unit {0}
HasSum g (Tree root) = is_some (children_in (page_at g root)) ≡ true → (header_in (page_at g root)).previous ≡ length (data_of g (Tree root))
HasSum g Unknown = Unit {0}

-- in a file the pages from one number up to another are what contents name, in their order
pub record ContentsStand (g : File) (first beyond : ℕ) (contents : List Content) : Type 0 where
  pub branch : IsBranch g (between first beyond) (flat_map content_pages contents)
  pub fit : All (ContentFits g) contents
  pub ascend : AscendIn first beyond (flat_map content_pages contents)

-- in a file a key stands with its data, and has the pages from one number up to another
pub record UnitStands (g : File) (sorted : Bool) (first beyond : ℕ) (placed : PlacedUnit) : Type 0 where
  pub on : ContentsStand g first beyond (contents_of placed)
  pub key : value_of g placed.key_item ≡ placed.unit.key
  pub values : data_of g placed.data_item ≡ placed.unit.values
  pub single : length placed.unit.values ≡ 1 → is_set placed.data_item ≡ false
  pub right : is_wrong_set g sorted placed.data_item ≡ false
  pub summed : HasSum g placed.data_item

-- keys stand one after the other
abbrev pub UnitsStand : File → Bool → ℕ → ℕ → List PlacedUnit → Type 0
UnitsStand g sorted first beyond [] = beyond ≡ first
UnitsStand g sorted first beyond (unit ∷ units) = UnitStands g sorted first unit.beyond unit × UnitsStand g sorted unit.beyond beyond units

-- The keys of a bucket stand on its pages: those of each page with their own pages behind it, and then the next page. The first page may stand
-- elsewhere.
abbrev pub BucketStands : File → Bool → ℕ → ℕ → ℕ → ℕ → List (List PlacedUnit) → Type 0
BucketStands g sorted previous p first beyond [] = ⊥
BucketStands g sorted previous p first beyond (units ∷ []) = IsHashIn g p previous 0 (contents_on units) × UnitsStand g sorted first beyond units
BucketStands g sorted previous p first beyond (units ∷ more ∷ pages) =
    (next : ℕ) × IsHashIn g p previous next (contents_on units) × UnitsStand g sorted first next units
    × BucketStands g sorted p next (next + 1) beyond (more ∷ pages)

-- Buckets whose first pages follow each other stand, and so do their other pages.
abbrev pub TableStands : File → Bool → ℕ → ℕ → ℕ → List (List (List PlacedUnit)) → Type 0
TableStands g sorted p first beyond [] = beyond ≡ first
TableStands g sorted p first beyond (bucket ∷ buckets) =
    (middle : ℕ) × BucketStands g sorted 0 p first middle bucket × TableStands g sorted (p + 1) middle beyond buckets

-- the keys of a bucket, page by page
abbrev pub units_on : List (List PlacedUnit) → List Keyed
units_on pages = map unit_of (flat_map (λ page. page) pages)

-- each page of the buckets of a table has type 2: whoever seeks a key looks at each one, and takes none of their order for granted
abbrev pub HasUnsortedBuckets : File → HashMeta → Type 0
HasUnsortedBuckets g meta = (b p : ℕ) → b ≤ meta.max_bucket → Contains (bucket_pages g meta b) p → type_in (page_at g p) ≡ Some 2

-- the trees of data that the keys of a table have say how many data there are
abbrev pub HasSums : File → HashMeta → Type 0
HasSums g meta = (b : ℕ) → b ≤ meta.max_bucket → All (λ (pair : StoredPair). HasSum g pair.data_item) (bucket_pairs g meta b)

-- what is so of the buckets of a table that was built, though the rules of the format don't ask it
pub record HasBuiltBuckets (g : File) (meta : HashMeta) : Type 0 where
  pub unsorted : HasUnsortedBuckets g meta
  pub sums : HasSums g meta

-- of those of a database, where it is a hash
abbrev pub HasBuiltTable : File → Metadata → Type 0
HasBuiltTable g (BtreeFields meta) = Unit {0}
HasBuiltTable g (HashFields meta) = HasBuiltBuckets g meta
HasBuiltTable g (QueueFields meta) = Unit {0}

-- The laws.

-- buckets that stand are such
abbrev pub StandingTablesAreBuilt : Type 0
StandingTablesAreBuilt =
    (g : File) (settings : Settings) (first bits beyond : ℕ) (buckets : List (List (List PlacedUnit))) → IsCounted g → 1 ≤ first
    → beyond ≤ g.last + 1 → bits ≤ 31 → length buckets ≡ 2 ^ bits → TableStands g settings.sorted first (first + 2 ^ bits) beyond buckets
    → HasBuiltBuckets g (table_meta settings first bits)

-- a table whose buckets have the keys that are theirs is the part of the database with its metadata, and has the list of the keys
abbrev pub TablesAreParts : Type 0
TablesAreParts =
    (g : File) (settings : Settings) (first bits beyond : ℕ) (units : List Keyed) (buckets : List (List (List PlacedUnit))) → IsCounted g → 1 ≤ first
    → beyond ≤ g.last + 1 → 1 ≤ bits → bits ≤ 31 → SuitsTable settings units
    → map units_on buckets ≡ map (dealt bits units) (range_with_len 0 (2 ^ bits))
    → TableStands g settings.sorted first (first + 2 ^ bits) beyond buckets
    → IsPart g (record {
      pages = between first beyond;
      fields = HashFields (table_meta settings first bits);
      list = flat_map listed_unit units;
    })
