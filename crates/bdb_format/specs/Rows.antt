-- The rows of the fault table that speak of one page. Source: docs/FORMAT.md, "Stage 2, the form of a page".
use Rattle.std.specs.Prelude.{ℕ, ◌+◌, ◌-◌, ◌/◌, ◌%◌, nat_lt, nat_le, ◌==◌, ◌||◌, ◌&&◌, not, if◌then◌else◌, Bool, true, false, List, [], ◌∷◌, ◌++◌, length}
use Rattle.std.specs.Prelude.{slice_range, slice_index, Option, Some, None, is_none}
use Rattle.std.specs.Option.{option_map}
use Rattle.std.specs.Int.{is_power_of_two}
use Rattle.std.specs.List.{list_any, range_with_len}
use Rattle.bdb_format.specs.declared.kinds.Order.{Order}
use Rattle.bdb_format.specs.declared.pages.ItemFault.{ItemFault}
use Rattle.bdb_format.specs.declared.pages.ItemFault.TheVariants.{Offset, Kind, Extent}
use Rattle.bdb_format.specs.declared.metadata.FileKind.{FileKind}
use Rattle.bdb_format.specs.declared.metadata.FileKind.TheVariants.{Btree, Hash, Queue}
use Rattle.bdb_format.specs.declared.metadata.Head.{Head}
use Rattle.bdb_format.specs.declared.metadata.HashMeta.{HashMeta}
use Rattle.bdb_format.specs.declared.metadata.QueueMeta.{QueueMeta}
use Rattle.bdb_format.specs.Numbers.{byte_at, two_at, four_at, has_bit, pad4}
use Rattle.bdb_format.specs.Hashing.{group}
use Rattle.bdb_format.specs.Table.{Row, ◌:?◌, first_row}
use Rattle.bdb_format.specs.declared.pages.PageType.{PageType}
use Rattle.bdb_format.specs.declared.pages.PageType.TheVariants.{Free as FreePage, Hash as HashPage, Internal as InternalPage}
use Rattle.bdb_format.specs.declared.pages.PageType.TheVariants.{RecnoInternal as RecnoInternalPage, Leaf as LeafPage, RecnoLeaf as RecnoLeafPage}
use Rattle.bdb_format.specs.declared.pages.PageType.TheVariants.{Overflow as OverflowPage, HashMeta as HashMetaPage, BtreeMeta as BtreeMetaPage}
use Rattle.bdb_format.specs.declared.pages.PageType.TheVariants.{QueueMeta as QueueMetaPage, Queue as QueuePage, DupLeaf as DupLeafPage, Other as OtherPage}
use Rattle.bdb_format.specs.Reading.{entries_of, index_end, offset_of, kind_at, blocks_of, hash_end, hash_fields, queue_fields, is_zero, page_type}

-- the magic number, the version and the type of metadata
abbrev pub magic_of : FileKind → ℕ
magic_of Btree = 0x053162
magic_of Hash = 0x061561
magic_of Queue = 0x042253

abbrev pub version_of : FileKind → ℕ
version_of Btree = 9
version_of Hash = 9
version_of Queue = 4

abbrev pub type_of : FileKind → ℕ
type_of Btree = 9
type_of Hash = 8
type_of Queue = 10

-- the file is a queue
abbrev pub is_queue : FileKind → Bool
is_queue Btree = false
is_queue Hash = false
is_queue Queue = true

-- Items.

-- a leaf has inline and overflow items, and a btree leaf sets as data
abbrev pub is_leaf_kind : ℕ → ℕ → ℕ → Bool
is_leaf_kind type_byte index kind = kind == 1 || kind == 3 || (kind == 2 && type_byte == 5 && index % 2 == 1)

-- where an item of a leaf ends
abbrev pub leaf_end : Order → List ℕ → ℕ → ℕ
leaf_end order page at = if kind_at page at == 1 then at + 3 + two_at order page at else at + 12

-- where an item of an internal page ends; an overflow key has 12 bytes
abbrev pub internal_end : Order → List ℕ → ℕ → ℕ
internal_end order page at = at + 12 + two_at order page at

-- where an item of an internal page of a recno tree ends
abbrev pub recno_end : Order → List ℕ → ℕ → ℕ
recno_end order page at = at + 8

-- the rows of an item of a leaf
unfoldable pub leaf_rows : Order → List ℕ → ℕ → List (Row ItemFault)
leaf_rows order page index =
    let at : ℕ = offset_of order page index in
    Offset :? (nat_lt at (index_end order page) || nat_lt (length page) (at + 3))
    ∷ Kind :? not (is_leaf_kind (byte_at page 25) index (kind_at page at))
    ∷ Extent :? nat_lt (length page) (leaf_end order page at)
    ∷ []

-- the rows of an item of an internal page; an overflow key is 12 bytes long
unfoldable pub internal_rows : Order → List ℕ → ℕ → List (Row ItemFault)
internal_rows order page index =
    let at : ℕ = offset_of order page index in
    Offset :? (nat_lt at (index_end order page) || nat_lt (length page) (at + 12))
    ∷ Kind :? not (kind_at page at == 1 || kind_at page at == 3)
    ∷ Extent :? (nat_lt (length page) (internal_end order page at) || (kind_at page at == 3 && not (two_at order page at == 12)))
    ∷ []

-- the rows of an item of an internal page of a recno tree
unfoldable pub recno_rows : Order → List ℕ → ℕ → List (Row ItemFault)
recno_rows order page index =
    let at : ℕ = offset_of order page index in
    Offset :? (nat_lt at (index_end order page) || nat_lt (length page) (recno_end order page at))
    ∷ []

-- a hash page has inline and overflow items, and sets on and off the page as data
abbrev pub is_hash_kind : ℕ → ℕ → Bool
is_hash_kind index kind = kind == 1 || kind == 3 || (index % 2 == 1 && (kind == 2 || kind == 4))

-- an offset isn't below that of the item before
abbrev pub does_not_fall : Order → List ℕ → ℕ → Bool
does_not_fall order page index = not (index == 0) && nat_le (offset_of order page (index - 1)) (offset_of order page index)

-- the item hasn't the extent of its kind
abbrev pub misses_extent : Order → List ℕ → ℕ → ℕ → ℕ → Bool
misses_extent order page at end kind =
    nat_lt (length page) end
    || (kind == 2 && is_none (blocks_of order (slice_range page (at + 1) end)))
    || (kind == 3 && not (end == at + 12))
    || (kind == 4 && not (end == at + 8))

-- the rows of an item of a hash page
unfoldable pub hash_rows : Order → List ℕ → ℕ → List (Row ItemFault)
hash_rows order page index =
    let at : ℕ = offset_of order page index in
    Offset :? (nat_lt at (index_end order page) || nat_le (length page) at || does_not_fall order page index)
    ∷ Kind :? not (is_hash_kind index (byte_at page at))
    ∷ Extent :? misses_extent order page at (hash_end order page index) (byte_at page at)
    ∷ []

-- Whole pages.

abbrev pub item_code : ItemFault → ℕ
item_code Offset = 22
item_code Kind = 23
item_code Extent = 24

-- leaves have level 1, internal pages a level above
abbrev pub is_wrong_level : PageType → ℕ → Bool
is_wrong_level LeafPage level = not (level == 1)
is_wrong_level RecnoLeafPage level = not (level == 1)
is_wrong_level DupLeafPage level = not (level == 1)
is_wrong_level InternalPage level = nat_lt level 2
is_wrong_level RecnoInternalPage level = nat_lt level 2
is_wrong_level t level = false

-- where items stand in pairs their number is even; an internal page has at least one
abbrev pub is_wrong_entry_count : PageType → ℕ → Bool
is_wrong_entry_count HashPage entries = entries % 2 == 1
is_wrong_entry_count LeafPage entries = entries % 2 == 1
is_wrong_entry_count InternalPage entries = entries == 0
is_wrong_entry_count RecnoInternalPage entries = entries == 0
is_wrong_entry_count t entries = false

-- the rows of a page before its items: its index, its level and its entries
unfoldable pub index_rows : Order → List ℕ → PageType → List (Row ℕ)
index_rows order page t =
    19 :? nat_lt (length page) (index_end order page)
    ∷ 20 :? is_wrong_level t (byte_at page 24)
    ∷ 21 :? is_wrong_entry_count t (entries_of order page)
    ∷ []

abbrev pub item_rows : PageType → Order → List ℕ → ℕ → List (Row ItemFault)
item_rows HashPage order page index = hash_rows order page index
item_rows InternalPage order page index = internal_rows order page index
item_rows RecnoInternalPage order page index = recno_rows order page index
item_rows t order page index = leaf_rows order page index

-- the code of the first row of an item that holds, if one does
abbrev pub item_row : PageType → Order → List ℕ → ℕ → Option ℕ
item_row t order page index = option_map item_code (first_row (item_rows t order page index))

-- there is a code, and it's this one
abbrev pub is_code : ℕ → Option ℕ → Bool
is_code code None = false
is_code code (Some other) = other == code

-- an item of the page has this as the first row that holds for it
abbrev pub some_item : PageType → Order → List ℕ → ℕ → Bool
some_item t order page code = list_any (λ index. is_code code (item_row t order page index)) (range_with_len 0 (entries_of order page))

-- the rows of the items of a page, each on all items at once
abbrev pub all_item_rows : PageType → Order → List ℕ → List (Row ℕ)
all_item_rows t order page =
    22 :? some_item t order page 22
    ∷ 23 :? some_item t order page 23
    ∷ 24 :? some_item t order page 24
    ∷ []

-- the first row of a page with an index: those of the index, then those of the items
unfoldable pub listed_code : Order → List ℕ → PageType → Option ℕ
listed_code order page t = first_row (index_rows order page t ++ all_item_rows t order page)

-- the rows of a page of a chain: its bytes lie on it
abbrev pub overflow_rows : Order → List ℕ → List (Row ℕ)
overflow_rows order page = 25 :? nat_lt (length page) (26 + two_at order page 22) ∷ []

-- the row of a page of a type, its number and type and metadata aside
abbrev pub body_code : Order → List ℕ → PageType → Option ℕ
body_code order page FreePage = None
body_code order page OverflowPage = first_row (overflow_rows order page)
body_code order page HashMetaPage = None
body_code order page BtreeMetaPage = None
body_code order page QueueMetaPage = None
body_code order page QueuePage = None
body_code order page OtherPage = None
body_code order page t = listed_code order page t

-- the types of the pages above 0 of a btree or hash file
abbrev pub is_tree_type : ℕ → Bool
is_tree_type byte = list_any (λ t. t == byte) (0 ∷ 2 ∷ 3 ∷ 4 ∷ 5 ∷ 6 ∷ 7 ∷ 8 ∷ 9 ∷ 12 ∷ 13 ∷ [])

-- the type of the pages above 0 of a queue file
abbrev pub is_queue_type : ℕ → Bool
is_queue_type byte = byte == 11

-- the types that a page may have, by the kind of the file and the page's number
abbrev pub may_have_type : FileKind → ℕ → ℕ → Bool
may_have_type kind number byte =
    if number == 0 then byte == type_of kind
    else (if is_queue kind then is_queue_type byte else is_tree_type byte)

-- a page has its number, and a type that it may have
abbrev pub identity_rows : Order → List ℕ → ℕ → (ℕ → Bool) → List (Row ℕ)
identity_rows order page number is_type =
    1 :? not (four_at order page 8 == number)
    ∷ 2 :? not (is_type (byte_at page 25))
    ∷ []

-- Metadata.

-- the rows of all metadata
abbrev pub meta_rows : Order → List ℕ → ℕ → FileKind → List (Row ℕ)
meta_rows order page number kind =
    3 :? (nat_lt 0 number && not (four_at order page 12 == magic_of kind))
    ∷ 4 :? (nat_lt 0 number && not (four_at order page 16 == version_of kind))
    ∷ 5 :? not (four_at order page 20 == length page)
    ∷ 6 :? not (byte_at page 24 == 0)
    ∷ 7 :? has_bit (byte_at page 26) 0x01
    ∷ 8 :? (has_bit (byte_at page 26) 0x06 || not (four_at order page 36 == 0))
    ∷ []

-- flags that aren't known or don't go together: recno is 0x02, record counts 0x04, duplicates 0x01 and 0x40, a master 0x20
abbrev pub are_wrong_flags : ℕ → ℕ → Bool
are_wrong_flags number flags =
    nat_lt 0xff flags
    || (has_bit flags 0x02 && (has_bit flags 0x45 || (number == 0 && has_bit flags 0x20)))
    || (has_bit flags 0x04 && has_bit flags 0x41)

abbrev pub btree_rows : Order → List ℕ → ℕ → List (Row ℕ)
btree_rows order page number =
    9 :? has_bit (four_at order page 48) 0x80
    ∷ 10 :? are_wrong_flags number (four_at order page 48)
    ∷ []

-- one bucket alone, or masks of one and the same power of two around the greatest bucket
abbrev pub are_masks : HashMeta → Bool
are_masks meta =
    (meta.max_bucket == 0 && meta.high_mask == 0)
    || (nat_le 1 meta.high_mask && is_power_of_two (meta.high_mask + 1) && meta.low_mask == meta.high_mask / 2 && nat_le meta.low_mask meta.max_bucket
    && nat_le meta.max_bucket meta.high_mask)

-- a group of a bucket up to the greatest has the spare 0
abbrev pub lacks_spare : HashMeta → Bool
lacks_spare meta = list_any (λ g. slice_index meta.spares g == 0) (range_with_len 0 (group meta.max_bucket + 1))

abbrev pub table_rows : Order → List ℕ → ℕ → List (Row ℕ)
table_rows order page last =
    11 :? not (four_at order page 92 == 0x5e688dd1)
    ∷ 12 :? nat_lt 0x07 (four_at order page 48)
    ∷ 13 :? not (are_masks (hash_fields order page))
    ∷ 14 :? (nat_lt last (four_at order page 72) || lacks_spare (hash_fields order page))
    ∷ []

-- how many records of a length stand on a page of a size
abbrev pub records_per_page : ℕ → ℕ → ℕ
records_per_page size re_len = (size - 28) / pad4 (re_len + 1)

abbrev pub queue_rows : Order → List ℕ → List (Row ℕ)
queue_rows order page =
    let meta : QueueMeta = queue_fields order page in
    15 :? not (four_at order page 92 == 0)
    ∷ 16 :? (records_per_page (length page) meta.re_len == 0 || not (meta.per_page == records_per_page (length page) meta.re_len))
    ∷ 17 :? (meta.first == 0 || meta.current == 0)
    ∷ 18 :? nat_lt meta.current meta.first
    ∷ []

-- the rows of metadata of a kind; only those of a table look at the last page
abbrev pub kind_rows : Order → List ℕ → ℕ → ℕ → FileKind → List (Row ℕ)
kind_rows order page number last Btree = btree_rows order page number
kind_rows order page number last Hash = table_rows order page last
kind_rows order page number last Queue = queue_rows order page

-- the rows of metadata of a kind behind its number and type
abbrev pub field_rows : Order → List ℕ → ℕ → ℕ → FileKind → List (Row ℕ)
field_rows order page number last kind = meta_rows order page number kind ++ kind_rows order page number last kind

-- all rows of a page that is metadata of a kind
unfoldable pub metadata_rows : Order → List ℕ → ℕ → ℕ → FileKind → List (Row ℕ)
metadata_rows order page number last kind = identity_rows order page number (λ byte. byte == type_of kind) ++ field_rows order page number last kind

-- Any page.

-- the row of a page of a type, its number and type aside
abbrev pub typed_code : Head → ℕ → List ℕ → PageType → Option ℕ
typed_code head number page HashMetaPage = first_row (field_rows head.order page number head.last Hash)
typed_code head number page BtreeMetaPage = first_row (field_rows head.order page number head.last Btree)
typed_code head number page QueueMetaPage = first_row (field_rows head.order page number head.last Queue)
typed_code head number page t = body_code head.order page t

-- the first row of a page: none of a zero page that may be one, else that of its number and its type, else that of a page of its type
abbrev pub code_of : Bool → Order → ℕ → List ℕ → (ℕ → Bool) → (PageType → Option ℕ) → Option ℕ
code_of empty order number page is_type rest =
    elim empty [
      | true ↦ None
      | false ↦ elim (first_row (identity_rows order page number is_type)) [
        | Some code ↦ Some code
        | None ↦ rest (page_type (byte_at page 25))
      ]
    ]

-- the code of the first row of form that holds for a page, if one does
unfoldable pub form_code : Head → ℕ → List ℕ → Option ℕ
form_code head number page =
    code_of (nat_lt 0 number && is_zero page) head.order number page (may_have_type head.kind number) (typed_code head number page)

-- the same for a page above 0 of a btree or hash file by itself: of metadata only number and type are looked at
unfoldable pub page_code : Order → ℕ → List ℕ → Option ℕ
page_code order number page = code_of (is_zero page) order number page is_tree_type (body_code order page)

-- the same for a page above 0 of a queue file by itself
unfoldable pub queue_code : Order → ℕ → List ℕ → Option ℕ
queue_code order number page = code_of (is_zero page) order number page is_queue_type (λ t. None)
