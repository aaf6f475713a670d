-- What is kept of the databases that are found, and of the pages of each.
use Rattle.std.specs.Prelude.{◌≡◌, ◌^◌, ℕ, ◌<◌, nat_lt, ◌==◌, ◌&&◌, ◌||◌, not, if◌then◌else◌, Bool, true, false, List, drop, length, map, get_or, Option}
use Rattle.std.specs.Prelude.{Some, None}
use Rattle.std.specs.List.{range_with_len}
use Rattle.std.specs.Option.{option_map}
use Rattle.bdb_rescue.specs.of_format.declared.metadata.QueueMeta.{QueueMeta}
use Rattle.bdb_rescue.specs.of_format.Terms.{BtreeFields, File, Hash, HashFields, Leaf, Metadata, Page, QueueFields, RecnoLeaf, is_fixed, is_recno}
use Rattle.bdb_rescue.specs.of_format.Terms.{names_databases}
use Rattle.bdb_rescue.specs.of_image.Metas.{meta_seen}
use Rattle.bdb_rescue.specs.Kept.{Reading, file_in}
use Rattle.bdb_apart.specs.Found.{Found, found}
use Rattle.bdb_apart.specs.Queues.{queue_in}
use Rattle.bdb_apart.specs.Rows.{row_from}
use Rattle.bdb_apart.specs.Given.{FoundIn, above, db_at, in_image}
use Rattle.bdb_apart.specs.declared.holds.Holds.{Holds}
use Rattle.bdb_apart.specs.declared.holds.Holds.TheVariants.{Leaves, Buckets, Records, Slots}
use Rattle.bdb_apart.specs.declared.holds.PageKind.{PageKind}
use Rattle.bdb_apart.specs.declared.holds.PageKind.TheVariants.{Leaf as LeafKind, Bucket, Records as RecordsKind, Other}
use Rattle.bdb_apart.specs.declared.place.Place.{Place}

-- a database that is kept
abbrev pub found_seen : Place → Found
found_seen place = record { name = place.name; meta = place.meta; fields = meta_seen place.fields }

abbrev pub found_of : Reading → Place → FoundIn
found_of reading place = in_image reading (found_seen place)

-- metadata on page 0 are those of the only database
abbrev pub alone_in : Option Metadata → Bool
alone_in None = false
alone_in (Some (BtreeFields meta)) = not (names_databases meta)
alone_in (Some (HashFields meta)) = true
alone_in (Some (QueueFields meta)) = false

-- metadata on page 0 are those of a master
abbrev pub names_in : Option Metadata → Bool
names_in None = false
names_in (Some (BtreeFields meta)) = names_databases meta
names_in (Some (HashFields meta)) = false
names_in (Some (QueueFields meta)) = false

-- what the pages of a database hold
abbrev pub holds_of : Metadata → Holds
holds_of (BtreeFields meta) = if is_recno meta then Records (if is_fixed meta then meta.re_len else 0) else Leaves
holds_of (HashFields meta) = Buckets
holds_of (QueueFields meta) = Slots

abbrev pub holds_in : Found → Holds
holds_in db = holds_of db.fields

-- the kind of a page
abbrev pub kind_in : Page → PageKind
kind_in (Leaf page) = LeafKind
kind_in (Hash page) = Bucket
kind_in (RecnoLeaf page) = RecordsKind
kind_in page = Other

-- a page of a kind holds pairs of a database
abbrev pub pairs_in : Holds → PageKind → Bool
pairs_in Leaves LeafKind = true
pairs_in Buckets Bucket = true
pairs_in holds kind = false

abbrev pub is_leaf_kind : PageKind → Bool
is_leaf_kind LeafKind = true
is_leaf_kind kind = false

abbrev pub is_pair_kind : PageKind → Bool
is_pair_kind LeafKind = true
is_pair_kind Bucket = true
is_pair_kind kind = false

-- a record is one of a database
abbrev pub fits_in : Holds → (ℕ × List ℕ) → Bool
fits_in (Records len) placed = nat_lt placed.0 (2 ^ 32) && (len == 0 || length placed.1 == len)
fits_in holds placed = false

-- what the database holds that is found with a metadata page
abbrev pub holds_at : List Found → ℕ → Option Holds
holds_at dbs m = option_map holds_in (db_at dbs (Some m))

-- the databases of the metadata pages, by page
pub record AreHeld (dbs : List Found) (count : ℕ) (held : List (Option Holds)) : Type 0 where
  pub len : length held ≡ count
  pub each : (m : ℕ) → m < count → get_or held m None ≡ holds_at dbs m

-- what is kept of an image
pub record IsApart (reading : Reading) (pages : File) (aboves : List (Option ℕ)) (held : List (Option Holds)) (places : List Place) : Type 0 where
  pub homes : pages ≡ file_in reading
  pub rows : aboves ≡ map (above (file_in reading)) (range_with_len 0 (file_in reading).count)
  pub holds : AreHeld (found reading) (file_in reading).count held
  pub places_are : map found_seen places ≡ found reading

-- the databases from one on
abbrev pub found_from : Reading → ℕ → List FoundIn
found_from reading at = map (in_image reading) (drop at (found reading))

-- the pages that may belong to the database of a metadata page
abbrev pub row_in : Reading → ℕ → List ℕ
row_in reading m = row_from (map (above (file_in reading)) (range_with_len 0 (file_in reading).count)) m 0

-- the metadata of a queue are those on page 0
abbrev pub IsKnown : Reading → Found → Type 0
IsKnown reading db = (meta : QueueMeta) → db.fields ≡ QueueFields meta → queue_in reading ≡ Some meta
