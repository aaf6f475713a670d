-- The databases that are found in a damaged file, with their names. Source: docs/FORMAT.md, "Salvage".
use Rattle.std.specs.Prelude.{ℕ, ◌-◌, ◌==◌, ◌&&◌, not, if◌then◌else◌, Bool, true, false, List, [], ◌∷◌, ◌++◌, map, Option, Some, None, codes, decimal}
use Rattle.std.specs.List.{filter, flat_map, fold, list_any, range_with_len}
use Rattle.std.specs.Option.{is_some, option_to_list, unwrap_or}
use Rattle.std.specs.Str.{bytes_eq}
use Rattle.bdb_rescue.specs.of_format.declared.metadata.QueueMeta.{QueueMeta}
use Rattle.bdb_rescue.specs.of_format.Terms.{BtreeFields, File, HashFields, Leaf, Meta, Metadata, Page, QueueFields, less, master_in}
use Rattle.bdb_rescue.specs.of_format.Terms.{names_databases, page_at, page_named}
use Rattle.bdb_rescue.specs.of_survey.Salvage.{stored_on}
use Rattle.bdb_rescue.specs.Kept.{Reading, file_in}
use Rattle.bdb_homes.specs.Homes.{home}
use Rattle.bdb_homes.specs.declared.home.Home.{Home}
use Rattle.bdb_apart.specs.Queues.{queue_in}

-- a database that is found: its name, where it has one, its metadata page, and what that says
pub record Found : Type 0 where
  pub name : Option (List ℕ)
  pub meta : ℕ
  pub fields : Metadata

-- a page belongs to the database of a metadata page
abbrev pub is_at : ℕ → Option Home → Bool
is_at meta None = false
is_at meta (Some home) = home.meta == meta

-- The names that a master gives.

abbrev pub is_leaf : Page → Bool
is_leaf (Leaf page) = true
is_leaf page = false

-- a leaf of pairs under page 0
abbrev pub is_master_leaf : File → ℕ → Bool
is_master_leaf file p = is_leaf (page_at file p) && is_at 0 (home file p)

-- a stored pair with four bytes of data names a page by its key
abbrev pub entry_of : (List ℕ × List ℕ) → List (List ℕ × ℕ)
entry_of pair = map (λ p. (pair.0, p)) (option_to_list (page_named pair.1))

abbrev pub entries_on : File → ℕ → List (List ℕ × ℕ)
entries_on file p = flat_map entry_of (stored_on file p)

unfoldable pub entries : File → List (List ℕ × ℕ)
entries file =
    if is_some (master_in (page_at file 0)) then flat_map (entries_on file) (filter (is_master_leaf file) (range_with_len 0 file.count)) else []

-- the key of the first of these that names a page
abbrev pub name_in : ℕ → List (List ℕ × ℕ) → Option (List ℕ)
name_in p [] = None
name_in p (entry ∷ others) = if entry.1 == p then Some entry.0 else name_in p others

-- The databases.

-- the pages above page 0
abbrev pub pages_above : File → List ℕ
pages_above file = range_with_len 1 (file.count - 1)

-- metadata of a btree or a hash, as a list of it alone
abbrev pub tree_fields : Page → List Metadata
tree_fields (Meta (BtreeFields meta)) = BtreeFields meta ∷ []
tree_fields (Meta (HashFields meta)) = HashFields meta ∷ []
tree_fields page = []

-- the database whose metadata stand on a page, as a list of it alone
abbrev pub found_on : File → List ℕ → ℕ → List Found
found_on file name p = map (λ fields. record { name = Some name; meta = p; fields = fields }) (tree_fields (page_at file p))

-- with the name that an entry gives it, and where none does with that of its number
abbrev pub named_meta : File → List (List ℕ × ℕ) → ℕ → List Found
named_meta file names p = flat_map (λ name. found_on file name p) (option_to_list (name_in p names))

abbrev pub unnamed_meta : File → List (List ℕ × ℕ) → ℕ → List Found
unnamed_meta file names p = if is_some (name_in p names) then [] else found_on file (codes "page " ++ decimal p) p

-- one of both
abbrev pub meta_by : Bool → File → List (List ℕ × ℕ) → ℕ → List Found
meta_by true file names p = named_meta file names p
meta_by false file names p = unnamed_meta file names p

abbrev pub above_by : Bool → File → List Found
above_by named file = flat_map (meta_by named file (entries file)) (pages_above file)

-- those that an entry names, page by page
abbrev pub named_above : File → List Found
named_above file = flat_map (named_meta file (entries file)) (pages_above file)

-- and the others
abbrev pub unnamed_above : File → List Found
unnamed_above file = flat_map (unnamed_meta file (entries file)) (pages_above file)

abbrev pub name_of : Found → List ℕ
name_of db = unwrap_or db.name []

-- in the order of names
abbrev pub put_found : List Found → Found → List Found
put_found [] db = db ∷ []
put_found (other ∷ others) db = if less (name_of db) (name_of other) then db ∷ other ∷ others else other ∷ put_found others db

abbrev pub has_name : List ℕ → Found → Bool
has_name name db = bytes_eq name (name_of db)

-- of one name the first counts
abbrev pub with_found : List Found → Found → List Found
with_found dbs db = if list_any (has_name (name_of db)) dbs then dbs else put_found dbs db

-- page 0 is the metadata of the only database: of a hash, or of a btree that is no master
abbrev pub is_alone : Page → Bool
is_alone (Meta (BtreeFields meta)) = not (names_databases meta)
is_alone (Meta (HashFields meta)) = true
is_alone page = false

abbrev pub only_found : Metadata → Found
only_found fields = record { name = None; meta = 0; fields = fields }

abbrev pub found_under : File → Page → List Found
found_under file page = if is_alone page then map only_found (tree_fields page) else fold with_found [] (named_above file ++ unnamed_above file)

abbrev pub found_beside : File → Option QueueMeta → List Found
found_beside file (Some meta) = only_found (QueueFields meta) ∷ []
found_beside file None = found_under file (page_at file 0)

unfoldable pub found : Reading → List Found
found reading = found_beside (file_in reading) (queue_in reading)
