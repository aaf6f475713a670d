-- What a damaged file still has of its pages: those that are refused, those that are zero, and those with another number. Source: docs/FORMAT.md, "Salvage".
use Rattle.std.specs.Prelude.{ℕ, ◌-◌, ◌%◌, ◌==◌, ◌&&◌, ◌||◌, nat_lt, not, if◌then◌else◌, Bool, List, length, map, Option, None, is_none}
use Rattle.std.specs.List.{filter, range_with_len}
use Rattle.std.specs.Option.{option_or, option_to_list}
use Rattle.bdb_apart.specs.of_format.declared.kinds.Fault.{Fault}
use Rattle.bdb_apart.specs.of_format.declared.kinds.Order.{Order}
use Rattle.bdb_apart.specs.of_format.declared.metadata.FileKind.TheVariants.{Queue}
use Rattle.bdb_apart.specs.of_format.Terms.{by_page, byte_at, first_row, four_at, is_zero, magic_of, metadata_rows, page_code, page_type, queue_code, type_of}
use Rattle.bdb_apart.specs.of_survey.Salvage.{meta_code}
use Rattle.bdb_apart.specs.of_rescue.Kept.{Reading, file_in}
use Rattle.bdb_apart.specs.Found.{pages_above}
use Rattle.bdb_apart.specs.Queues.{bytes_at}

-- the bytes behind the last whole page
abbrev pub cut_bytes : Reading → ℕ
cut_bytes reading = length reading.image % reading.guess.page_size

-- Zero pages.

abbrev pub is_zero_at : Reading → ℕ → Bool
is_zero_at reading p = is_zero (bytes_at reading p)

-- the pages above page 0 whose bytes are all 0
unfoldable pub zero_pages : Reading → List ℕ
zero_pages reading = filter (is_zero_at reading) (pages_above (file_in reading))

-- Refused pages.

-- the number that a page carries
abbrev pub number_on : Order → List ℕ → ℕ
number_on order page = four_at order page 8

-- page 0 has the magic number of a queue
abbrev pub is_queue_file : Reading → Bool
is_queue_file reading = nat_lt 0 (file_in reading).count && four_at reading.guess.order (bytes_at reading 0) 12 == magic_of Queue

-- the first row of stage 2 that holds of a page of a btree or hash file, by the number that it carries: where one does, salvage reads no page there
abbrev pub tree_row : Order → ℕ → List ℕ → Option ℕ
tree_row order last page = option_or (page_code order (number_on order page) page) (meta_code order last page (page_type (byte_at page 25)))

-- a page of a queue file that carries the number 0 is its metadata, by its type or by its magic number
abbrev pub is_queue_head : Order → List ℕ → Bool
is_queue_head order page = byte_at page 25 == type_of Queue || four_at order page 12 == magic_of Queue

abbrev pub queue_head_row : Order → List ℕ → Option ℕ
queue_head_row order page = if is_queue_head order page then first_row (metadata_rows order page 0 0 Queue) else None

-- the same of a page of a queue file
abbrev pub queue_row : Order → List ℕ → Option ℕ
queue_row order page = if number_on order page == 0 then queue_head_row order page else queue_code order (number_on order page) page

abbrev pub row_in : Bool → Order → ℕ → List ℕ → Option ℕ
row_in queue order last page = if queue then queue_row order page else tree_row order last page

-- the first row of stage 2 that holds of a page of an image, by the number that the page carries, and with the last whole page as the last one
unfoldable pub row_at : Reading → ℕ → Option ℕ
row_at reading p = row_in (is_queue_file reading) reading.guess.order ((file_in reading).count - 1) (bytes_at reading p)

-- the pages of which a row holds, each with the first, by page
unfoldable pub refused_pages : Reading → List Fault
refused_pages reading = by_page 2 0 (file_in reading).count (λ p. option_to_list (row_at reading p))

-- Pages with another number.

-- a page carries another number than its own: none that is refused, or zero
abbrev pub is_renumbered : Reading → ℕ → Bool
is_renumbered reading p =
    is_none (row_at reading p) && not (is_zero_at reading p) && not (number_on reading.guess.order (bytes_at reading p) == p)

abbrev pub renumbered_page : Reading → ℕ → (ℕ × ℕ)
renumbered_page reading p = (p, number_on reading.guess.order (bytes_at reading p))

-- those pages, each with the number that it carries, by page
unfoldable pub renumbered_pages : Reading → List (ℕ × ℕ)
renumbered_pages reading = map (renumbered_page reading) (filter (is_renumbered reading) (range_with_len 0 (file_in reading).count))
