-- Pages that take items, and what placing one does. Source: docs/FORMAT.md, "Other pages" and "Items".
use Rattle.std.specs.Prelude.{◌≡◌, ℕ, ◌+◌, ◌-◌, ◌%◌, ◌≤◌, ◌<◌, ◌^◌, nat_le, Bool, true, false, List, [], ◌∷◌, ◌++◌, length, None}
use Rattle.bdb_layout.specs.of_format.declared.kinds.Order.{Order}
use Rattle.bdb_layout.specs.of_format.declared.pages.Header.{Header}
use Rattle.bdb_layout.specs.of_format.Terms.{DupLeaf, Hash, Internal, Item, Leaf, Listed, NoType, Page, RecnoInternal, RecnoLeaf, abstract_page, byte_at}
use Rattle.bdb_layout.specs.of_format.Terms.{entries_of, four_at, header_bytes, index_end, is_page_size, is_wrong_entry_count, is_wrong_level, item_row}
use Rattle.bdb_layout.specs.of_format.Terms.{leaf_item_at, offset_of, overwritten, page_code, page_type, spelled, two_at}
use Rattle.bdb_layout.specs.of_format.declared.pages.PageType.{PageType}
use Rattle.bdb_layout.specs.of_format.declared.pages.PageType.TheVariants.{DupLeaf as DupLeafPage, Hash as HashPage, Internal as InternalPage}
use Rattle.bdb_layout.specs.of_format.declared.pages.PageType.TheVariants.{Leaf as LeafPage, RecnoInternal as RecnoInternalPage, RecnoLeaf as RecnoLeafPage}
use Rattle.bdb_pack.specs.Items.{HasPlace, IsWritable, OnHash, OnInternal, OnLeaf, OnRecno, PageItem, extent, holds_item, item_bytes, takes_items}

abbrev pub high_free_of : Order → List ℕ → ℕ
high_free_of order page = two_at order page 22

-- a page of a type that takes items: no row of its items holds; they lie between the high free offset and the page's end, and its index ends
-- before them; the high free offset is one of theirs, or the page's end where there are none
pub record IsBegun (order : Order) (page : List ℕ) : Type 0 where
  pub size : is_page_size (length page) ≡ true
  pub type : takes_items (byte_at page 25) ≡ true
  pub room : index_end order page ≤ high_free_of order page
  pub high : high_free_of order page ≤ length page
  pub above : (i : ℕ) → i < entries_of order page → high_free_of order page ≤ offset_of order page i
  pub least : 0 < entries_of order page → (i : ℕ) × (i < entries_of order page) × (offset_of order page i ≡ high_free_of order page)
  pub empty : entries_of order page ≡ 0 → high_free_of order page ≡ length page
  pub items : (i : ℕ) → i < entries_of order page → item_row (page_type (byte_at page 25)) order page i ≡ None

-- what the bytes of such a page leave room for
pub record IsOpen (order : Order) (page : List ℕ) : Type 0 where
  pub least : 26 ≤ length page
  pub most : length page ≤ 32768
  pub room : index_end order page ≤ high_free_of order page
  pub high : high_free_of order page ≤ length page

-- a page with a header, but with no entries and the high free offset at its end
abbrev pub begun_header : List ℕ → Header → Header
begun_header page header = record header { entries = 0; high_free = length page }

-- the numbers of a header fit their fields
pub record FitsFields (header : Header) : Type 0 where
  pub number : header.number < 2 ^ 32
  pub previous : header.previous < 2 ^ 32
  pub next : header.next < 2 ^ 32

abbrev pub begun_page : Order → List ℕ → Header → List ℕ
begun_page order page header = overwritten page 0 (header_bytes order (begun_header page header))

-- a page with one more entry at the end of its index, and a high free offset
abbrev pub entered : Order → List ℕ → ℕ → ℕ → List ℕ
entered order page at high =
    overwritten
    (overwritten
    (overwritten page (index_end order page) (spelled 2 order at))
    20 (spelled 2 order (entries_of order page + 1)))
    22 (spelled 2 order high)

-- a page with the bytes of an item at a place, and that place at the end of its index
abbrev pub placed : Order → List ℕ → ℕ → List ℕ → List ℕ
placed order page at piece = overwritten (entered order page at at) at piece

-- there is room for an item of so many bytes and its entry
abbrev pub HasRoom : Order → List ℕ → ℕ → Type 0
HasRoom order page n = index_end order page + 2 + extent (byte_at page 25) n ≤ high_free_of order page

-- whether there is
abbrev pub has_room : Order → List ℕ → ℕ → Bool
has_room order page n = nat_le (index_end order page + 2 + extent (byte_at page 25) n) (high_free_of order page)

-- where an item of so many bytes goes: right below the others
abbrev pub place_below : Order → List ℕ → ℕ → ℕ
place_below order page n = high_free_of order page - extent (byte_at page 25) n

-- a page with an item right below the others
abbrev pub page_and_item : Order → List ℕ → List ℕ → List ℕ
page_and_item order page piece = placed order page (place_below order page (length piece)) piece

-- a page with the entry two before once more at the end of its index
abbrev pub page_and_shared : Order → List ℕ → List ℕ
page_and_shared order page = entered order page (offset_of order page (entries_of order page - 2)) (high_free_of order page)

-- an entry can be shared: a btree leaf with whole pairs, and room for an entry
pub record CanShare (order : Order) (page : List ℕ) : Type 0 where
  pub type : byte_at page 25 ≡ 5
  pub even : entries_of order page % 2 ≡ 0
  pub some : 2 ≤ entries_of order page
  pub room : index_end order page + 2 ≤ high_free_of order page

-- An abstract page of a type without items.

abbrev pub empty_listed : {I : Type 0} → Header → Listed I
empty_listed header = record { header = header; offsets = []; items = [] }

-- a type that takes no items has no such page
abbrev pub empty_page : PageType → Header → Page
empty_page HashPage header = Hash (empty_listed header)
empty_page InternalPage header = Internal (empty_listed header)
empty_page RecnoInternalPage header = RecnoInternal (empty_listed header)
empty_page LeafPage header = Leaf (empty_listed header)
empty_page RecnoLeafPage header = RecnoLeaf (empty_listed header)
empty_page DupLeafPage header = DupLeaf (empty_listed header)
empty_page t header = NoType

-- An abstract page with one more item.

abbrev pub with_entry : Header → ℕ → Header
with_entry header high = record header { entries = header.entries + 1; high_free = high }

abbrev pub with_item : {I : Type 0} → Listed I → ℕ → ℕ → I → Listed I
with_item page at high item = record { header = with_entry page.header high; offsets = page.offsets ++ (at ∷ []); items = page.items ++ (item ∷ []) }

-- on a page of another type an item changes nothing
abbrev pub page_with : Page → ℕ → PageItem → Page
page_with (Leaf page) at (OnLeaf item) = Leaf (with_item page at at item)
page_with (RecnoLeaf page) at (OnLeaf item) = RecnoLeaf (with_item page at at item)
page_with (DupLeaf page) at (OnLeaf item) = DupLeaf (with_item page at at item)
page_with (Internal page) at (OnInternal item) = Internal (with_item page at at item)
page_with (RecnoInternal page) at (OnRecno item) = RecnoInternal (with_item page at at item)
page_with (Hash page) at (OnHash content) = Hash (with_item page at at (record { content = content; deleted = false }))
page_with page at item = page

-- a btree leaf with an item once more, whose high free offset stays
abbrev pub page_again : Page → ℕ → ℕ → Item → Page
page_again (Leaf page) at high item = Leaf (with_item page at high item)
page_again page at high item = page

-- The laws.

-- the bytes of a page stand, after an item is placed, for the page with the item at its end
abbrev pub ItemsArePlaced : Type 0
ItemsArePlaced =
    (order : Order) (page : List ℕ) (item : PageItem) → IsBegun order page → holds_item (byte_at page 25) item ≡ true → IsWritable item
    → HasRoom order page (length (item_bytes order item))
    → abstract_page order (page_and_item order page (item_bytes order item))
    ≡ page_with (abstract_page order page) (place_below order page (length (item_bytes order item))) item

-- a page that takes an item in its place goes on to take items
abbrev pub BegunStays : Type 0
BegunStays =
    (order : Order) (page : List ℕ) (item : PageItem) → IsBegun order page → holds_item (byte_at page 25) item ≡ true → IsWritable item
    → HasPlace (byte_at page 25) (entries_of order page) item → HasRoom order page (length (item_bytes order item))
    → IsBegun order (page_and_item order page (item_bytes order item))

-- after an entry is shared the bytes stand for the page with the item of that entry once more, and the page goes on to take items
abbrev pub EntriesAreShared : Type 0
EntriesAreShared =
    (order : Order) (page : List ℕ) → IsBegun order page → CanShare order page
    → let index : ℕ = entries_of order page - 2 in
    (abstract_page order (page_and_shared order page)
    ≡ page_again (abstract_page order page) (offset_of order page index) (high_free_of order page) (leaf_item_at order page index))
    × IsBegun order (page_and_shared order page)

-- a page with a header is one that takes items, and has none yet
abbrev pub BegunPagesTakeItems : Type 0
BegunPagesTakeItems =
    (order : Order) (page : List ℕ) (header : Header) → is_page_size (length page) ≡ true → takes_items header.page_type ≡ true → FitsFields header
    → (abstract_page order (begun_page order page header) ≡ empty_page (page_type header.page_type) (begun_header page header))
    × IsBegun order (begun_page order page header)

-- a page that takes items has no row of form, where it has its number, its level is that of its type, and its entries are as many as its type asks
abbrev pub BegunIsFormed : Type 0
BegunIsFormed =
    (order : Order) (number : ℕ) (page : List ℕ) → IsBegun order page → four_at order page 8 ≡ number
    → is_wrong_level (page_type (byte_at page 25)) (byte_at page 24) ≡ false
    → is_wrong_entry_count (page_type (byte_at page 25)) (entries_of order page) ≡ false → page_code order number page ≡ None

-- a page of a type that takes items is begun where no row of its items holds, and its high free offset is the least offset of its index, or its end
-- where it has no entries
abbrev pub RowsBegin : Type 0
RowsBegin =
    (order : Order) (page : List ℕ) → is_page_size (length page) ≡ true → takes_items (byte_at page 25) ≡ true
    → ((i : ℕ) → i < entries_of order page → item_row (page_type (byte_at page 25)) order page i ≡ None)
    → ((i : ℕ) → i < entries_of order page → high_free_of order page ≤ offset_of order page i)
    → (0 < entries_of order page → (i : ℕ) × (i < entries_of order page) × (offset_of order page i ≡ high_free_of order page))
    → (entries_of order page ≡ 0 → high_free_of order page ≡ length page) → IsBegun order page
