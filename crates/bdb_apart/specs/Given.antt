-- What is given of each database that is found, and what is left. Source: docs/FORMAT.md, "Salvage".
use Rattle.std.specs.Prelude.{ℕ, ◌+◌, ◌^◌, nat_lt, ◌==◌, ◌&&◌, ◌||◌, not, if◌then◌else◌, Bool, true, false, List, [], map, length, Option, Some, None}
use Rattle.std.specs.List.{enumerate_from, filter, find, flat_map, range_with_len}
use Rattle.std.specs.Option.{is_some}
use Rattle.bdb_rescue.specs.of_format.Terms.{BtreeFields, File, Hash, HashFields, Item, Leaf, Metadata, Page, QueueFields, RecnoLeaf, entries_in}
use Rattle.bdb_rescue.specs.of_format.Terms.{is_fixed, is_recno, page_at, page_named}
use Rattle.bdb_rescue.specs.of_survey.Salvage.{is_taken, live_value, live_whole, stored_on}
use Rattle.bdb_rescue.specs.Kept.{Reading, file_in}
use Rattle.bdb_homes.specs.Homes.{home}
use Rattle.bdb_homes.specs.declared.home.Home.{Home}
use Rattle.bdb_apart.specs.Found.{Found, found, is_alone, is_master_leaf}
use Rattle.bdb_apart.specs.Queues.{queue_records}
use Rattle.bdb_apart.specs.Rows.{is_some_of}

-- a database in its image
pub record FoundIn : Type 0 where
  pub reading : Reading
  pub db : Found

abbrev pub in_image : Reading → Found → FoundIn
in_image reading db = record { reading = reading; db = db }

-- the databases of an image
abbrev pub found_in : Reading → List FoundIn
found_in reading = map (in_image reading) (found reading)

-- Pages.

abbrev pub is_pair_page : Page → Bool
is_pair_page (Leaf page) = true
is_pair_page (Hash page) = true
is_pair_page page = false

-- the metadata page of a home
abbrev pub meta_at : Option Home → Option ℕ
meta_at None = None
meta_at (Some home) = Some home.meta

-- the metadata page of the database to which a page may belong: that of its home, but each page of pairs may belong to the only database
abbrev pub above : File → ℕ → Option ℕ
above file p =
    if is_alone (page_at file 0) && is_pair_page (page_at file p) then Some 0 else meta_at (home file p)

-- the pages of a kind of database that hold pairs
abbrev pub holds_pairs : Metadata → Page → Bool
holds_pairs (BtreeFields meta) (Leaf page) = not (is_recno meta)
holds_pairs (HashFields meta) (Hash page) = true
holds_pairs fields page = false

-- Pairs.

abbrev pub gives_pairs : File → Found → ℕ → Bool
gives_pairs file db p = is_some_of db.meta (above file p) && holds_pairs db.fields (page_at file p)

-- the pairs of a database, by page and slot
unfoldable pub pairs_given : FoundIn → List (List ℕ × List ℕ)
pairs_given it =
    flat_map (stored_on (file_in it.reading)) (filter (gives_pairs (file_in it.reading) it.db) (range_with_len 0 (file_in it.reading).count))

-- Records.

-- a record has a number, and the length that is fixed
abbrev pub fits_record : Metadata → (ℕ × List ℕ) → Bool
fits_record (BtreeFields meta) placed =
    nat_lt placed.0 (2 ^ 32) && (not (is_fixed meta) || meta.re_len == 0 || length placed.1 == meta.re_len)
fits_record fields placed = false

-- the live entries of a leaf with a whole value, each with its number behind so many
abbrev pub numbered_entry : File → (ℕ × Item) → List (ℕ × List ℕ)
numbered_entry file (number, item) = map (λ value. (number, value)) (live_value file item)

abbrev pub numbered_on : File → ℕ → ℕ → List (ℕ × List ℕ)
numbered_on file p start = flat_map (numbered_entry file) (enumerate_from (start + 1) (entries_in (page_at file p)))

abbrev pub is_recno_db : Metadata → Bool
is_recno_db (BtreeFields meta) = is_recno meta
is_recno_db fields = false

abbrev pub is_record_page : Page → Bool
is_record_page (RecnoLeaf page) = true
is_record_page page = false

-- where the records of a page stand in a database, if they do: not those of a set
abbrev pub start_at : File → Found → ℕ → Option Home → Option ℕ
start_at file db p None = None
start_at file db p (Some home) =
    if is_recno_db db.fields && is_record_page (page_at file p) && home.meta == db.meta && not (is_taken file p) then Some home.start else None

abbrev pub start_in : File → Found → ℕ → Option ℕ
start_in file db p = start_at file db p (home file p)

abbrev pub records_from : File → Found → ℕ → Option ℕ → List (ℕ × List ℕ)
records_from file db p None = []
records_from file db p (Some start) = filter (fits_record db.fields) (numbered_on file p start)

abbrev pub records_on : File → Found → ℕ → List (ℕ × List ℕ)
records_on file db p = records_from file db p (start_in file db p)

abbrev pub records_by : Reading → Found → Metadata → List (ℕ × List ℕ)
records_by reading db (QueueFields meta) = queue_records reading meta
records_by reading db fields = flat_map (records_on (file_in reading) db) (range_with_len 0 (file_in reading).count)

-- the records of a database, by page and slot, each with its number
unfoldable pub records_given : FoundIn → List (ℕ × List ℕ)
records_given it = records_by it.reading it.db it.db.fields

-- What is left.

-- the first of these with a metadata page, if there is one
abbrev pub db_at : List Found → Option ℕ → Option Found
db_at dbs None = None
db_at dbs (Some m) = find (λ (db : Found). db.meta == m) dbs

abbrev pub gives_on : Page → Option Found → Bool
gives_on page None = false
gives_on page (Some db) = holds_pairs db.fields page

-- the pairs of a page are those of a database
abbrev pub are_given : File → List Found → ℕ → Bool
are_given file dbs p = gives_on (page_at file p) (db_at dbs (above file p))

-- data name a metadata page of one of these
abbrev pub names_by : List Found → List ℕ → Bool
names_by dbs value = is_some (db_at dbs (page_named value))

abbrev pub names_found : List Found → (List ℕ × List ℕ) → Bool
names_found dbs pair = names_by dbs pair.1

-- what is left of the pairs of a page: nothing where a database gives them; on a leaf of a master not those that name a database
abbrev pub pairs_left_on : File → List Found → ℕ → List (List ℕ × List ℕ)
pairs_left_on file dbs p =
    if are_given file dbs p then [] else filter (λ pair. not (is_master_leaf file p && names_found dbs pair)) (stored_on file p)

unfoldable pub pairs_left : Reading → List (List ℕ × List ℕ)
pairs_left reading = flat_map (pairs_left_on (file_in reading) (found reading)) (range_with_len 0 (file_in reading).count)

-- the records of a page without those that a database gives: those with another length, or without a number
abbrev pub records_without : File → Found → ℕ → Option ℕ → List (List ℕ)
records_without file db p None = live_whole file p
records_without file db p (Some start) =
    map (λ (placed : ℕ × List ℕ). placed.1) (filter (λ placed. not (fits_record db.fields placed)) (numbered_on file p start))

abbrev pub records_beside : File → ℕ → Option Found → List (List ℕ)
records_beside file p None = live_whole file p
records_beside file p (Some db) = records_without file db p (start_in file db p)

-- the records of a page that stand in no set and that no database gives
abbrev pub records_left_on : File → List Found → ℕ → List (List ℕ)
records_left_on file dbs p = if is_taken file p then [] else records_beside file p (db_at dbs (meta_at (home file p)))

unfoldable pub records_left : Reading → List (List ℕ)
records_left reading = flat_map (records_left_on (file_in reading) (found reading)) (range_with_len 0 (file_in reading).count)
