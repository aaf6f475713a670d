-- How much is given of each database of a damaged file, how much of it is lost, and how much belongs to none. Source: docs/FORMAT.md, "Salvage".
use Rattle.std.specs.Prelude.{ℕ, ◌+◌, nat_lt, ◌==◌, ◌&&◌, not, if◌then◌else◌, Bool, true, false, List, length, Option, Some, None}
use Rattle.std.specs.List.{count_by, enumerate_from, filter, range_with_len, sum_by}
use Rattle.bdb_apart.specs.of_format.Terms.{BtreeFields, Chain, Content, File, HashFields, Inline, Item, Metadata, QueueFields, Set, Tree, Unknown, entries_in}
use Rattle.bdb_apart.specs.of_format.Terms.{is_recno, page_at}
use Rattle.bdb_apart.specs.of_survey.Items.{is_valued}
use Rattle.bdb_apart.specs.of_survey.Salvage.{ItemPair, is_whole, item_pairs, set_start}
use Rattle.bdb_apart.specs.of_rescue.Kept.{Reading, file_in}
use Rattle.bdb_apart.specs.Found.{Found}
use Rattle.bdb_apart.specs.Given.{FoundIn, fits_record, gives_pairs, numbered_entry, pairs_left, records_left, start_in}
use Rattle.bdb_apart.specs.Text.{list_given}

-- the pairs or records that are given of a database
unfoldable pub given_count : FoundIn → ℕ
given_count it = length (list_given it)

-- Lost pairs.

-- data are whole: those of a chain or of a set off the page too
abbrev pub are_whole : File → Content → Bool
are_whole file (Inline bytes) = true
are_whole file (Set blocks) = true
are_whole file (Chain head total) = is_whole file head total
are_whole file (Tree root) = nat_lt 0 (length (set_start file root))
are_whole file Unknown = false

-- a live pair whose key or data aren't whole
abbrev pub is_lost_pair : File → ItemPair → Bool
is_lost_pair file pair = not pair.value.deleted && not (is_valued file pair.key.content && are_whole file pair.value.content)

abbrev pub lost_pairs_on : File → ℕ → ℕ
lost_pairs_on file p = count_by (is_lost_pair file) (item_pairs (page_at file p))

abbrev pub lost_pairs : File → Found → ℕ
lost_pairs file db = sum_by (lost_pairs_on file) (filter (gives_pairs file db) (range_with_len 0 file.count))

-- Lost records.

-- a live entry that isn't given: its value isn't whole, or it doesn't fit the database
abbrev pub is_lost_entry : File → Metadata → (ℕ × Item) → Bool
is_lost_entry file fields entry = not entry.1.deleted && length (filter (fits_record fields) (numbered_entry file entry)) == 0

abbrev pub lost_records_from : File → Found → ℕ → Option ℕ → ℕ
lost_records_from file db p None = 0
lost_records_from file db p (Some start) = count_by (is_lost_entry file db.fields) (enumerate_from (start + 1) (entries_in (page_at file p)))

abbrev pub lost_records_on : File → Found → ℕ → ℕ
lost_records_on file db p = lost_records_from file db p (start_in file db p)

abbrev pub lost_records : File → Found → ℕ
lost_records file db = sum_by (lost_records_on file db) (range_with_len 0 file.count)

-- What is lost on the pages of a database: of a queue nothing is said.

abbrev pub lost_in : File → Found → Metadata → ℕ
lost_in file db (BtreeFields meta) = if is_recno meta then lost_records file db else lost_pairs file db
lost_in file db (HashFields meta) = lost_pairs file db
lost_in file db (QueueFields meta) = 0

-- the live pairs or records on the pages of a database that aren't given
unfoldable pub lost_count : FoundIn → ℕ
lost_count it = lost_in (file_in it.reading) it.db it.db.fields

-- What belongs to no database.

-- the pairs
unfoldable pub rest_pairs : Reading → ℕ
rest_pairs reading = length (pairs_left reading)

-- the records
unfoldable pub rest_records : Reading → ℕ
rest_records reading = length (records_left reading)
