-- A queue in a damaged file: its metadata on page 0, and the records on its pages. Source: docs/FORMAT.md, "Salvage".
use Rattle.std.specs.Prelude.{ℕ, ◌+◌, ◌-◌, ◌*◌, nat_lt, ◌==◌, ◌&&◌, if◌then◌else◌, Bool, List, [], ◌∷◌, Option, Some, None, is_none, take, drop, slice_range}
use Rattle.std.specs.List.{flat_map, range_with_len}
use Rattle.bdb_rescue.specs.of_format.declared.kinds.Order.{Order}
use Rattle.bdb_rescue.specs.of_format.declared.metadata.FileKind.TheVariants.{Queue}
use Rattle.bdb_rescue.specs.of_format.declared.metadata.QueueMeta.{QueueMeta}
use Rattle.bdb_rescue.specs.of_format.Terms.{byte_at, field_rows, first_row, four_at, is_queue_type, is_record, queue_fields, record_number, slot_at, type_of}
use Rattle.bdb_rescue.specs.Kept.{Reading, file_in}

-- the bytes of a page
abbrev pub bytes_at : Reading → ℕ → List ℕ
bytes_at reading p = take reading.guess.page_size (drop (p * reading.guess.page_size) reading.image)

-- a page is the metadata of a queue whose records have some length: no row of metadata above page 0 holds, so that magic number and version count
abbrev pub is_queue_meta : Order → List ℕ → Bool
is_queue_meta order page =
    byte_at page 25 == type_of Queue && is_none (first_row (field_rows order page 1 0 Queue)) && nat_lt 0 (queue_fields order page).re_len

-- what it says
abbrev pub queue_on : Order → List ℕ → Option QueueMeta
queue_on order page = if is_queue_meta order page then Some (queue_fields order page) else None

-- the metadata on page 0, if it's that of a queue
unfoldable pub queue_in : Reading → Option QueueMeta
queue_in reading = if nat_lt 0 (file_in reading).count then queue_on reading.guess.order (bytes_at reading 0) else None

-- a page of a queue carries its own number
abbrev pub is_queue_page : Order → ℕ → List ℕ → Bool
is_queue_page order p page = is_queue_type (byte_at page 25) && four_at order page 8 == p

-- the record in a slot, with its number, if it's live
abbrev pub queue_slot : QueueMeta → ℕ → List ℕ → ℕ → List (ℕ × List ℕ)
queue_slot meta p records slot =
    if is_record meta p records slot
    then (record_number meta p slot, slice_range records (slot_at meta slot + 1) (slot_at meta slot + 1 + meta.re_len)) ∷ [] else []

-- the records in the slots of a page from one on
abbrev pub queue_slots_from : QueueMeta → ℕ → List ℕ → ℕ → List (ℕ × List ℕ)
queue_slots_from meta p records slot = flat_map (queue_slot meta p records) (range_with_len slot (meta.per_page - slot))

abbrev pub queue_records_on : Reading → QueueMeta → ℕ → List (ℕ × List ℕ)
queue_records_on reading meta p =
    if is_queue_page reading.guess.order p (bytes_at reading p) then queue_slots_from meta p (drop 28 (bytes_at reading p)) 0 else []

-- the records of a queue from a page on
abbrev pub queue_from : Reading → QueueMeta → ℕ → List (ℕ × List ℕ)
queue_from reading meta p = flat_map (queue_records_on reading meta) (range_with_len p ((file_in reading).count - p))

-- the records of a queue, each with its number
unfoldable pub queue_records : Reading → QueueMeta → List (ℕ × List ℕ)
queue_records reading meta = queue_from reading meta 1
