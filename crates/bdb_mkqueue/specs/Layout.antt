-- Where the records of a queue stand, and the bytes of its pages. Source: docs/FORMAT.md, "Databases of a file" and "Built queues".
use Rattle.std.specs.Prelude.{ℕ, ◌+◌, ◌-◌, ◌*◌, ◌/◌, ◌%◌, ◌==◌, if◌then◌else◌, List, [], ◌∷◌, ◌++◌, length, map, Option, Some, None, is_some}
use Rattle.std.specs.List.{flat_map, list_any, range_with_len}
use Rattle.bdb_text_format.specs.of_format.declared.kinds.Order.{Order}
use Rattle.bdb_text_format.specs.of_format.declared.metadata.QueueMeta.{QueueMeta}
use Rattle.bdb_text_format.specs.of_format.declared.pages.Header.{Header}
use Rattle.bdb_text_format.specs.of_format.declared.settings.Settings.{Settings}
use Rattle.bdb_text_format.specs.of_format.Terms.{header_bytes, pad4, records_per_page, zeros}
use Rattle.bdb_text_format.specs.declared.pairs.Pair.{Pair}
use Rattle.bdb_text_format.specs.Terms.{number_of}
use Rattle.bdb_mkqueue.specs.Lists.{first_number, next_number}

-- the metadata of a queue
abbrev pub queue_meta : Settings → List Pair → QueueMeta
queue_meta settings list = record {
  first = first_number list;
  current = next_number 1 list;
  re_len = settings.re_len;
  re_pad = settings.re_pad;
  per_page = records_per_page settings.page_size settings.re_len;
}

-- the page of a record, where a page has so many, and its slot there
abbrev pub page_of_record : ℕ → ℕ → ℕ
page_of_record per_page number = 1 + (number - 1) / per_page

abbrev pub slot_of : ℕ → ℕ → ℕ
slot_of per_page number = (number - 1) % per_page

-- how many pages a queue has: up to that of the greatest record, none where it is empty
abbrev pub queue_size : ℕ → List Pair → ℕ
queue_size per_page [] = 0
queue_size per_page (pair ∷ pairs) = page_of_record per_page (next_number 1 (pair ∷ pairs) - 1)

-- the value of the record with a number
abbrev pub record_of : List Pair → ℕ → Option (List ℕ)
record_of [] number = None
record_of (pair ∷ pairs) number = if number_of pair.key == number then Some pair.value else record_of pairs number

-- the records in the slots of a page
abbrev pub slots_of : List Pair → ℕ → ℕ → List (Option (List ℕ))
slots_of list per_page p = map (record_of list) (range_with_len ((p - 1) * per_page + 1) per_page)

-- a slot with a record: the byte 3, that the record is valid and set, its bytes, and zeros up to the end; an empty one is all zeros
abbrev pub slot_bytes : ℕ → Option (List ℕ) → List ℕ
slot_bytes re_len None = zeros (pad4 (re_len + 1))
slot_bytes re_len (Some value) = 3 ∷ (value ++ zeros (pad4 (re_len + 1) - 1 - length value))

-- where a page of records begins: a header of which only the number and the type aren't 0
abbrev pub records_header : ℕ → Header
records_header p = record { number = p; previous = 0; next = 0; entries = 0; high_free = 0; level = 0; page_type = 11 }

-- a page with records in its slots, which begin at byte 28
abbrev pub records_page : Order → ℕ → ℕ → ℕ → List (Option (List ℕ)) → List ℕ
records_page order size re_len p slots =
    header_bytes order (records_header p) ++ (zeros 2 ++ (flat_map (slot_bytes re_len) slots ++ zeros (size - 28 - length slots * pad4 (re_len + 1))))

-- a page without a record is a zero page
abbrev pub queue_page : Order → ℕ → ℕ → ℕ → List (Option (List ℕ)) → List ℕ
queue_page order size re_len p slots = if list_any is_some slots then records_page order size re_len p slots else zeros size
