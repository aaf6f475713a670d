-- What is asked of a page among pages that are being built, and what an item makes of them.
use Rattle.std.specs.Prelude.{ℕ, Bool, List, length}
use Rattle.bdb_layout.specs.of_format.declared.pages.Header.{Header}
use Rattle.bdb_layout.specs.of_format.Terms.{byte_at, entries_of}
use Rattle.bdb_pack.specs.Built.{Built, bytes_of, with_page, with_zeros}
use Rattle.bdb_pack.specs.Items.{HasPlace, PageItem, holds_item}
use Rattle.bdb_pack.specs.Placing.{HasRoom, IsBegun, begun_page, has_room, page_and_item}

-- the header of a page without entries
abbrev pub first_header : ℕ → ℕ → ℕ → ℕ → Header
first_header number previous level type =
    record { number = number; previous = previous; next = 0; entries = 0; high_free = 0; level = level; page_type = type }

-- with a page at the end that begins with this header
abbrev pub with_begun : Built → Header → Built
with_begun built header =
    with_page (with_zeros built) header.number (begun_page built.order (bytes_of (with_zeros built) header.number) header)

-- the page with this number is begun
abbrev pub IsBegunOn : Built → ℕ → Type 0
IsBegunOn built p = IsBegun built.order (bytes_of built p)

-- it holds such items
abbrev pub holds_on : Built → ℕ → PageItem → Bool
holds_on built p item = holds_item (byte_at (bytes_of built p) 25) item

-- the item has its place at the end of its index
abbrev pub HasPlaceOn : Built → ℕ → PageItem → Type 0
HasPlaceOn built p item = HasPlace (byte_at (bytes_of built p) 25) (entries_of built.order (bytes_of built p)) item

-- it has room for these bytes and an entry
abbrev pub HasRoomOn : Built → ℕ → List ℕ → Type 0
HasRoomOn built p piece = HasRoom built.order (bytes_of built p) (length piece)

-- whether it has
abbrev pub has_room_on : Built → ℕ → List ℕ → Bool
has_room_on built p piece = has_room built.order (bytes_of built p) (length piece)

-- the pages with the bytes of an item right below the others of that page
abbrev pub with_item_on : Built → ℕ → List ℕ → Built
with_item_on built p piece = with_page built p (page_and_item built.order (bytes_of built p) piece)
