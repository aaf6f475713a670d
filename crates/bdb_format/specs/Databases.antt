-- The databases of a file, with their names, settings and lists. Source: docs/FORMAT.md, "Databases of a file".
use Rattle.std.specs.Prelude.{ℕ, ◌+◌, if◌then◌else◌, Bool, true, false, List, [], ◌∷◌, map, Option, Some, None}
use Rattle.std.specs.List.{flat_map}
use Rattle.std.specs.Str.{bytes_eq}
use Rattle.bdb_format.specs.declared.kinds.Kind.{Kind}
use Rattle.bdb_format.specs.declared.kinds.Kind.TheVariants.{Btree, Recno, Hash, Queue}
use Rattle.bdb_format.specs.declared.kinds.Order.{Order}
use Rattle.bdb_format.specs.declared.metadata.BtreeMeta.{BtreeMeta}
use Rattle.bdb_format.specs.declared.metadata.HashMeta.{HashMeta}
use Rattle.bdb_format.specs.declared.metadata.QueueMeta.{QueueMeta}
use Rattle.bdb_format.specs.declared.settings.Settings.{Settings}
use Rattle.bdb_format.specs.Digits.{number_in}
use Rattle.bdb_format.specs.Page.{Metadata, BtreeFields, HashFields, QueueFields}
use Rattle.bdb_format.specs.Flags.{is_recno, has_records, has_duplicates, is_sorted, counts_records, is_fixed, renumbers}
use Rattle.bdb_format.specs.File.{File, page_at}
use Rattle.bdb_format.specs.Contents.{StoredPair}
use Rattle.bdb_format.specs.Lists.{ListKey, BytesKey, NumberKey, get, list_of}
use Rattle.bdb_format.specs.ContentRows.{fields_in}
use Rattle.bdb_format.specs.Master.{master_in, master_pairs, named_by}

-- a database: its name, where it has one, and its metadata
pub record Database : Type 0 where
  pub name : Option (List ℕ)
  pub fields : Metadata

-- the database whose metadata is on a page; none where that is no metadata page
abbrev pub database_on : File → Option (List ℕ) → Option ℕ → List Database
database_on file name None = []
database_on file name (Some page) = map (λ fields. record { name = name; fields = fields }) (fields_in (page_at file page))

-- a pair of a master names a database: its key is the name
abbrev pub named_database : File → StoredPair → List Database
named_database file pair = database_on file (Some pair.key) (named_by file pair.data_item)

abbrev pub databases_under : File → Option BtreeMeta → List Database
databases_under file None = database_on file None (Some 0)
databases_under file (Some meta) = flat_map (named_database file) (master_pairs file)

-- those that a master names, in the order of its list, or the one on page 0, which has no name
unfoldable pub databases : File → List Database
databases file = databases_under file (master_in (page_at file 0))

-- a name is this one
abbrev pub is_name : Option (List ℕ) → Option (List ℕ) → Bool
is_name None None = true
is_name None (Some other) = false
is_name (Some name) None = false
is_name (Some name) (Some other) = bytes_eq name other

abbrev pub place_from : ℕ → Option (List ℕ) → List Database → Option ℕ
place_from i name [] = None
place_from i name (database ∷ others) = if is_name name database.name then Some i else place_from (i + 1) name others

-- the place of the database with this name, or of the one without a name
abbrev pub place_of : Option (List ℕ) → List Database → Option ℕ
place_of name all = place_from 0 name all

-- What a header line shows.

-- those of a kind that has none of its own
abbrev pub plain_settings : Kind → ℕ → Order → Settings
plain_settings kind page_size order = record {
  kind = kind;
  page_size = page_size;
  order = order;
  duplicates = false;
  sorted = false;
  recnum = false;
  renumber = false;
  fixed = false;
  re_len = 0;
  re_pad = 32;
  minkey = 2;
  ffactor = 0;
}

abbrev pub btree_settings : ℕ → Order → BtreeMeta → Settings
btree_settings page_size order meta = record (plain_settings Btree page_size order) {
  duplicates = has_duplicates (BtreeFields meta);
  sorted = is_sorted (BtreeFields meta);
  recnum = counts_records meta;
  minkey = meta.minkey;
}

abbrev pub recno_settings : ℕ → Order → BtreeMeta → Settings
recno_settings page_size order meta = record (plain_settings Recno page_size order) {
  renumber = renumbers meta;
  fixed = is_fixed meta;
  re_len = meta.re_len;
  re_pad = meta.re_pad;
}

abbrev pub hash_settings : ℕ → Order → HashMeta → Settings
hash_settings page_size order meta = record (plain_settings Hash page_size order) {
  duplicates = has_duplicates (HashFields meta);
  sorted = is_sorted (HashFields meta);
  ffactor = meta.ffactor;
}

abbrev pub queue_settings : ℕ → Order → QueueMeta → Settings
queue_settings page_size order meta = record (plain_settings Queue page_size order) { fixed = true; re_len = meta.re_len; re_pad = meta.re_pad }

-- the settings of a database with this metadata, in a file of this page size and order
abbrev pub settings_of : ℕ → Order → Metadata → Settings
settings_of page_size order (BtreeFields meta) = if is_recno meta then recno_settings page_size order meta else btree_settings page_size order meta
settings_of page_size order (HashFields meta) = hash_settings page_size order meta
settings_of page_size order (QueueFields meta) = queue_settings page_size order meta

-- What bytes ask for in a database.

abbrev pub get_number : List (ListKey × List ℕ) → Option ℕ → List (List ℕ)
get_number list None = []
get_number list (Some number) = get list (NumberKey number)

-- what the database with this metadata has under a key; of records the key says the number, in one to ten digits
abbrev pub data_under : File → Metadata → List ℕ → List (List ℕ)
data_under file fields key =
    if has_records fields then get_number (list_of file fields) (number_in key) else get (list_of file fields) (BytesKey key)
