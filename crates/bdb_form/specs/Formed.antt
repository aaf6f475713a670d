-- What a view keeps of its page, and what callers see of the views that are no list of items.
use Rattle.std.specs.Prelude.{◌≡◌, ◌≤◌, ◌+◌, ℕ, List, length, take, drop, Option, Some, None, Result, Ok, Err}
use Rattle.bdb_layout.specs.of_format.declared.kinds.Order.{Order}
use Rattle.bdb_layout.specs.of_format.declared.pages.Header.{Header}
use Rattle.bdb_layout.specs.of_format.Terms.{BtreeFields, HashFields, Metadata, QueueFields, btree_fields, hash_fields, listed_code, queue_fields, two_at}
use Rattle.bdb_layout.specs.of_format.declared.pages.PageType.{PageType}
use Rattle.bdb_layout.specs.of_format.declared.pages.PageType.TheVariants.{HashMeta as HashMetaPage, QueueMeta as QueueMetaPage}

-- a page with an index has the type and no fault of form
pub record IsListed (t : PageType) (order : Order) (page : List ℕ) : Type 0 where
  pub size : length page ≤ 32768
  pub header : 26 ≤ length page
  pub formed : listed_code order page t ≡ None

-- a page that begins with a header, which is at most 32768 bytes long
pub record HasHeader (page : List ℕ) : Type 0 where
  pub size : length page ≤ 32768
  pub header : 26 ≤ length page

-- the data of an overflow page lie on it
pub record HoldsData (order : Order) (page : List ℕ) : Type 0 where
  pub size : length page ≤ 32768
  pub header : 26 ≤ length page
  pub room : 26 + two_at order page 22 ≤ length page

-- the data on an overflow page
abbrev pub overflow_data : Order → List ℕ → List ℕ
overflow_data order page = take (two_at order page 22) (drop 26 page)

-- an overflow page: its header and its data
pub record OverflowPage : Type 0 where
  pub header : Header
  pub bytes : List ℕ

-- a queue page: its first 26 bytes read as a header, its number, and its records
pub record QueuePage : Type 0 where
  pub header : Header
  pub number : ℕ
  pub bytes : List ℕ

-- a metadata page: its first 26 bytes read as a header, and its fields
pub record MetaPage : Type 0 where
  pub header : Header
  pub fields : Metadata

abbrev pub fields_as : Order → List ℕ → PageType → Metadata
fields_as order page HashMetaPage = HashFields (hash_fields order page)
fields_as order page QueueMetaPage = QueueFields (queue_fields order page)
fields_as order page t = BtreeFields (btree_fields order page)

-- a value where no row holds, else the code of the row
abbrev pub unless : {T : Type 0} → Option ℕ → T → Result T ℕ
unless None value = Ok value
unless (Some code) value = Err code
