-- What the bytes of a page say. Source: docs/FORMAT.md, "Other pages", "Items" and "Metadata pages".
use Rattle.std.specs.Prelude.{ℕ, zero, suc, ◌+◌, ◌-◌, ◌*◌, ◌%◌, nat_lt, nat_le, ◌==◌, ◌||◌, not, if◌then◌else◌, Bool, true, false, List, [], ◌∷◌, map, length}
use Rattle.std.specs.Prelude.{take, drop, slice_range, Option, Some, None}
use Rattle.std.specs.Option.{unwrap_or, option_map}
use Rattle.std.specs.List.{list_all, range_with_len}
use Rattle.bdb_format.specs.declared.kinds.Order.{Order}
use Rattle.bdb_format.specs.declared.pages.Header.{Header}
use Rattle.bdb_format.specs.declared.pages.RecnoItem.{RecnoItem}
use Rattle.bdb_format.specs.declared.metadata.BtreeMeta.{BtreeMeta}
use Rattle.bdb_format.specs.declared.metadata.HashMeta.{HashMeta}
use Rattle.bdb_format.specs.declared.metadata.QueueMeta.{QueueMeta}
use Rattle.bdb_format.specs.Numbers.{byte_at, two_at, four_at}
use Rattle.bdb_format.specs.Page.{Content, Inline, Set, Chain, Tree, Unknown, Item, InternalItem, Listed, BtreeFields, HashFields, QueueFields, Page, Zero}
use Rattle.bdb_format.specs.Page.{Free, Meta, Hash, Internal, RecnoInternal, Leaf, RecnoLeaf, DupLeaf, Overflow, Queue, NoType}
use Rattle.bdb_format.specs.declared.pages.PageType.{PageType}
use Rattle.bdb_format.specs.declared.pages.PageType.TheVariants.{Free as FreePage, Hash as HashPage, Internal as InternalPage}
use Rattle.bdb_format.specs.declared.pages.PageType.TheVariants.{RecnoInternal as RecnoInternalPage, Leaf as LeafPage, RecnoLeaf as RecnoLeafPage}
use Rattle.bdb_format.specs.declared.pages.PageType.TheVariants.{Overflow as OverflowPage, HashMeta as HashMetaPage, BtreeMeta as BtreeMetaPage}
use Rattle.bdb_format.specs.declared.pages.PageType.TheVariants.{QueueMeta as QueueMetaPage, Queue as QueuePage, DupLeaf as DupLeafPage, Other as OtherPage}

-- the fields of a page header
abbrev pub header_of : Order → List ℕ → Header
header_of order page = record {
  number = four_at order page 8;
  previous = four_at order page 12;
  next = four_at order page 16;
  entries = two_at order page 20;
  high_free = two_at order page 22;
  level = byte_at page 24;
  page_type = byte_at page 25;
}

abbrev pub entries_of : Order → List ℕ → ℕ
entries_of order page = two_at order page 20

-- where the index ends, and items may begin
abbrev pub index_end : Order → List ℕ → ℕ
index_end order page = 26 + 2 * entries_of order page

-- the offset of an item
abbrev pub offset_of : Order → List ℕ → ℕ → ℕ
offset_of order page index = two_at order page (26 + 2 * index)

-- the kind of an item of a leaf or an internal page is in its third byte, with a bit that says whether it's deleted
abbrev pub kind_at : List ℕ → ℕ → ℕ
kind_at page at = byte_at page (at + 2) % 128

abbrev pub is_deleted : List ℕ → ℕ → Bool
is_deleted page at = nat_le 128 (byte_at page (at + 2))

-- the item of a leaf, from its offset
abbrev pub leaf_content : Order → List ℕ → ℕ → ℕ → Content
leaf_content order page at kind =
    if kind == 1 then Inline (slice_range page (at + 3) (at + 3 + two_at order page at))
    else (if kind == 2 then Tree (four_at order page (at + 4))
    else (if kind == 3 then Chain (four_at order page (at + 4)) (four_at order page (at + 8))
    else Unknown))

unfoldable pub leaf_item_at : Order → List ℕ → ℕ → Item
leaf_item_at order page index =
    let at : ℕ = offset_of order page index in
    record { content = leaf_content order page at (kind_at page at); deleted = is_deleted page at }

-- the key of an internal item, from the item's offset: bytes, or an overflow item of a leaf
abbrev pub internal_key : Order → List ℕ → ℕ → ℕ → Content
internal_key order page at kind =
    if kind == 1 then Inline (slice_range page (at + 12) (at + 12 + two_at order page at))
    else (if kind == 3 then Chain (four_at order page (at + 16)) (four_at order page (at + 20))
    else Unknown)

unfoldable pub internal_item_at : Order → List ℕ → ℕ → InternalItem
internal_item_at order page index =
    let at : ℕ = offset_of order page index in
    record { child = four_at order page (at + 4); count = four_at order page (at + 8); key = internal_key order page at (kind_at page at) }

unfoldable pub recno_item_at : Order → List ℕ → ℕ → RecnoItem
recno_item_at order page index =
    let at : ℕ = offset_of order page index in
    record { child = four_at order page at; count = four_at order page (at + 4) }

-- the blocks of a set on its page, turn by turn: a length, that many bytes, and the same length again; none where the bytes aren't a run of blocks
abbrev pub blocks_in : ℕ → Order → List ℕ → Option (List (List ℕ))
blocks_in turns order [] = Some []
blocks_in zero order (b ∷ bs) = None
blocks_in (suc turns) order (b ∷ bs) =
    let bytes : List ℕ = b ∷ bs in
    let n : ℕ = two_at order bytes 0 in
    if nat_lt (length bytes) (n + 4) || not (two_at order bytes (n + 2) == n) then None
    else option_map (λ rest. take n (drop 2 bytes) ∷ rest) (blocks_in turns order (drop (n + 4) bytes))

unfoldable pub blocks_of : Order → List ℕ → Option (List (List ℕ))
blocks_of order bytes = blocks_in (length bytes) order bytes

-- where an item of a hash page ends: at the offset of the item before it, the first at the page's end
abbrev pub hash_end : Order → List ℕ → ℕ → ℕ
hash_end order page index = if index == 0 then length page else offset_of order page (index - 1)

-- the item of a hash page, from its offset to its end; the kind is in its first byte
abbrev pub hash_content : Order → List ℕ → ℕ → ℕ → ℕ → Content
hash_content order page at end kind =
    if kind == 1 then Inline (slice_range page (at + 1) end)
    else (if kind == 2 then Set (unwrap_or (blocks_of order (slice_range page (at + 1) end)) [])
    else (if kind == 3 then Chain (four_at order page (at + 4)) (four_at order page (at + 8))
    else (if kind == 4 then Tree (four_at order page (at + 4))
    else Unknown)))

unfoldable pub hash_item_at : Order → List ℕ → ℕ → Item
hash_item_at order page index =
    let at : ℕ = offset_of order page index in
    record { content = hash_content order page at (hash_end order page index) (byte_at page at); deleted = false }

-- a page with an index, read item by item
unfoldable pub listed : {I : Type 0} → Order → List ℕ → (ℕ → I) → Listed I
listed order page item_at =
    let indices : List ℕ = range_with_len 0 (entries_of order page) in
    record { header = header_of order page; offsets = map (offset_of order page) indices; items = map item_at indices }

abbrev pub btree_fields : Order → List ℕ → BtreeMeta
btree_fields order page = record {
  flags = four_at order page 48;
  minkey = four_at order page 76;
  re_len = four_at order page 80;
  re_pad = four_at order page 84;
  root = four_at order page 88;
  free = four_at order page 28;
}

abbrev pub hash_fields : Order → List ℕ → HashMeta
hash_fields order page = record {
  flags = four_at order page 48;
  max_bucket = four_at order page 72;
  high_mask = four_at order page 76;
  low_mask = four_at order page 80;
  ffactor = four_at order page 84;
  spares = map (λ group. four_at order page (96 + 4 * group)) (range_with_len 0 32);
  free = four_at order page 28;
}

abbrev pub queue_fields : Order → List ℕ → QueueMeta
queue_fields order page = record {
  first = four_at order page 72;
  current = four_at order page 76;
  re_len = four_at order page 80;
  re_pad = four_at order page 84;
  per_page = four_at order page 88;
}

abbrev pub is_zero : List ℕ → Bool
is_zero page = list_all (λ byte. byte == 0) page

-- the type that a type byte stands for
abbrev pub page_type : ℕ → PageType
page_type byte =
    if byte == 0 then FreePage
    else (if byte == 2 then HashPage
    else (if byte == 3 then InternalPage
    else (if byte == 4 then RecnoInternalPage
    else (if byte == 5 then LeafPage
    else (if byte == 6 then RecnoLeafPage
    else (if byte == 7 then OverflowPage
    else (if byte == 8 then HashMetaPage
    else (if byte == 9 then BtreeMetaPage
    else (if byte == 10 then QueueMetaPage
    else (if byte == 11 then QueuePage
    else (if byte == 12 then DupLeafPage
    else (if byte == 13 then HashPage
    else OtherPage))))))))))))

-- the page of a type
abbrev pub page_as : Order → List ℕ → PageType → Page
page_as order page FreePage = Free (header_of order page)
page_as order page HashPage = Hash (listed order page (hash_item_at order page))
page_as order page InternalPage = Internal (listed order page (internal_item_at order page))
page_as order page RecnoInternalPage = RecnoInternal (listed order page (recno_item_at order page))
page_as order page LeafPage = Leaf (listed order page (leaf_item_at order page))
page_as order page RecnoLeafPage = RecnoLeaf (listed order page (leaf_item_at order page))
page_as order page OverflowPage = Overflow (header_of order page) (take (two_at order page 22) (drop 26 page))
page_as order page HashMetaPage = Meta (HashFields (hash_fields order page))
page_as order page BtreeMetaPage = Meta (BtreeFields (btree_fields order page))
page_as order page QueueMetaPage = Meta (QueueFields (queue_fields order page))
page_as order page QueuePage = Queue (four_at order page 8) (drop 28 page)
page_as order page DupLeafPage = DupLeaf (listed order page (leaf_item_at order page))
page_as order page OtherPage = NoType

-- the page that the bytes stand for
unfoldable pub abstract_page : Order → List ℕ → Page
abstract_page order page =
    elim (is_zero page) [ true ↦ Zero | false ↦ page_as order page (page_type (byte_at page 25)) ]
