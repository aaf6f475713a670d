-- The records of a queue from a place on, and what its metadata keeps. Source: docs/FORMAT.md, "Databases of a file" and "Stage 2, the form of a page".
use Rattle.std.specs.Prelude.{ℕ, ◌+◌, ◌-◌, ◌*◌, ◌/◌, ◌%◌, ◌≤◌, List, [], ◌++◌, length, map, Option}
use Rattle.std.specs.List.{flat_map, range_with_len}
use Rattle.std.specs.Option.{option_to_list}
use Rattle.bdb_overflow.specs.of_image.Linked.{HasMetadata}
use Rattle.bdb_overflow.specs.of_format.declared.metadata.QueueMeta.{QueueMeta}
use Rattle.bdb_overflow.specs.of_format.Terms.{File, ListKey, NumberKey, Page, Queue, QueueFields, listed_slot, pad4, page_at, page_records}
use Rattle.bdb_queue.specs.declared.record.Record.{Record}

-- a record with its number as its key
abbrev pub record_seen : Record → ListKey × List ℕ
record_seen record_in = (NumberKey record_in.number, record_in.bytes.now)

abbrev pub records_seen : Option Record → List (ListKey × List ℕ)
records_seen found = map record_seen (option_to_list found)

-- the records of a page from a slot on
unfoldable pub slots_from : QueueMeta → ℕ → List ℕ → ℕ → List (ListKey × List ℕ)
slots_from meta p records slot = flat_map (listed_slot meta p records) (range_with_len slot (meta.per_page - slot))

abbrev pub records_from : QueueMeta → ℕ → Page → ℕ → List (ListKey × List ℕ)
records_from meta p (Queue number records) slot = slots_from meta p records slot
records_from meta p page slot = []

-- the records of a queue from a slot of a page on
unfoldable pub left_from : File → QueueMeta → ℕ → ℕ → List (ListKey × List ℕ)
left_from file meta p slot = records_from meta p (page_at file p) slot ++ flat_map (λ q. page_records meta q (page_at file q))
    (range_with_len (p + 1) (file.last - p))

-- the slots of a page lie on it
abbrev pub HasSlots : QueueMeta → List ℕ → Type 0
HasSlots meta records = meta.per_page * pad4 (meta.re_len + 1) ≤ length records

-- a page of a queue at which a walk stands; page 0 holds no records
pub record IsPlace (file : File) (meta : QueueMeta) (page : ℕ) : Type 0 where
  pub queue : HasMetadata file (QueueFields meta)
  pub low : 1 ≤ page

-- the record in a slot of a page, if the page has records and it is live
abbrev pub record_in_slot : QueueMeta → ℕ → Page → ℕ → List (ListKey × List ℕ)
record_in_slot meta p (Queue number records) slot = listed_slot meta p records slot
record_in_slot meta p page slot = []

-- the record that stands where the one with this number, less 1, has its place
abbrev pub record_of : File → QueueMeta → ℕ → List (ListKey × List ℕ)
record_of file meta index = record_in_slot meta (index / meta.per_page + 1) (page_at file (index / meta.per_page + 1)) (index % meta.per_page)

-- the data of records
abbrev pub data_in : List (ListKey × List ℕ) → List (List ℕ)
data_in records = map (λ (entry : ListKey × List ℕ). entry.1) records
