-- How headers, items and metadata are written. Every byte that the layout doesn't name is 0.
-- Source: docs/FORMAT.md, "What the writing calls spell".
use Rattle.std.specs.Prelude.{◌≡◌, ℕ, ◌+◌, ◌-◌, ◌^◌, ◌<◌, ◌==◌, if◌then◌else◌, Bool, false, List, [], ◌∷◌, ◌++◌, length, replicate}
use Rattle.std.specs.List.{All, flat_map}
use Rattle.bdb_format.specs.declared.kinds.Order.{Order}
use Rattle.bdb_format.specs.declared.pages.Header.{Header}
use Rattle.bdb_format.specs.declared.pages.RecnoItem.{RecnoItem}
use Rattle.bdb_format.specs.declared.metadata.FileKind.{FileKind}
use Rattle.bdb_format.specs.declared.metadata.FileKind.TheVariants.{Btree, Hash, Queue}
use Rattle.bdb_format.specs.declared.metadata.BtreeMeta.{BtreeMeta}
use Rattle.bdb_format.specs.declared.metadata.HashMeta.{HashMeta}
use Rattle.bdb_format.specs.declared.metadata.QueueMeta.{QueueMeta}
use Rattle.bdb_format.specs.Numbers.{spelled}
use Rattle.bdb_format.specs.Page.{Content, Inline, Set, Chain, Tree, Unknown, Item, InternalItem}
use Rattle.bdb_format.specs.Reading.{offset_of, hash_end, leaf_item_at, internal_item_at, recno_item_at, hash_item_at}
use Rattle.bdb_format.specs.Rows.{magic_of, version_of, type_of}

abbrev pub zeros : ℕ → List ℕ
zeros n = replicate n 0

-- the log sequence number: two numbers, 0 and 1
abbrev pub lsn_bytes : Order → List ℕ
lsn_bytes order = spelled 4 order 0 ++ spelled 4 order 1

-- the 26 bytes of a header
unfoldable pub header_bytes : Order → Header → List ℕ
header_bytes order header =
    lsn_bytes order ++ (spelled 4 order header.number ++ (spelled 4 order header.previous ++ (spelled 4 order header.next
    ++ (spelled 2 order header.entries ++ (spelled 2 order header.high_free ++ (header.level ∷ header.page_type ∷ []))))))

-- the kind of an item of a leaf, with the bit of a deleted one
abbrev pub kind_byte : ℕ → Bool → ℕ
kind_byte kind deleted = if deleted then kind + 128 else kind

abbrev pub leaf_content_bytes : Order → Content → Bool → List ℕ
leaf_content_bytes order (Inline bytes) deleted = spelled 2 order (length bytes) ++ (kind_byte 1 deleted ∷ bytes)
leaf_content_bytes order (Tree root) deleted = 0 ∷ 0 ∷ kind_byte 2 deleted ∷ 0 ∷ (spelled 4 order root ++ zeros 4)
leaf_content_bytes order (Chain head total) deleted = 0 ∷ 0 ∷ kind_byte 3 deleted ∷ 0 ∷ (spelled 4 order head ++ spelled 4 order total)
leaf_content_bytes order (Set blocks) deleted = []
leaf_content_bytes order Unknown deleted = []

-- an item of a leaf
unfoldable pub leaf_bytes : Order → Item → List ℕ
leaf_bytes order item = leaf_content_bytes order item.content item.deleted

-- the length, the kind and the bytes of the key of an internal item; an overflow key is an overflow item of a leaf
abbrev pub internal_content_bytes : Order → List ℕ → Content → List ℕ
internal_content_bytes order child (Inline key) = spelled 2 order (length key) ++ (1 ∷ 0 ∷ (child ++ key))
internal_content_bytes order child (Chain head total) =
    spelled 2 order 12 ++ (3 ∷ 0 ∷ (child ++ leaf_content_bytes order (Chain head total) false))
internal_content_bytes order child (Set blocks) = []
internal_content_bytes order child (Tree root) = []
internal_content_bytes order child Unknown = []

-- an item of an internal page
unfoldable pub internal_bytes : Order → InternalItem → List ℕ
internal_bytes order item = internal_content_bytes order (spelled 4 order item.child ++ spelled 4 order item.count) item.key

-- an item of an internal page of a recno tree
unfoldable pub recno_bytes : Order → RecnoItem → List ℕ
recno_bytes order item = spelled 4 order item.child ++ spelled 4 order item.count

-- a block of a set: its length, its bytes, its length again
abbrev pub block_bytes : Order → List ℕ → List ℕ
block_bytes order block = spelled 2 order (length block) ++ (block ++ spelled 2 order (length block))

-- an item of a hash page
unfoldable pub hash_bytes : Order → Content → List ℕ
hash_bytes order (Inline bytes) = 1 ∷ bytes
hash_bytes order (Set blocks) = 2 ∷ flat_map (block_bytes order) blocks
hash_bytes order (Chain head total) = 3 ∷ 0 ∷ 0 ∷ 0 ∷ (spelled 4 order head ++ spelled 4 order total)
hash_bytes order (Tree root) = 4 ∷ 0 ∷ 0 ∷ 0 ∷ spelled 4 order root
hash_bytes order Unknown = []

-- Items that can be written: their numbers fit their fields.

abbrev pub IsLeafContent : Content → Type 0
IsLeafContent (Inline bytes) = length bytes < 2 ^ 16
IsLeafContent (Tree root) = root < 2 ^ 32
IsLeafContent (Chain head total) = (head < 2 ^ 32) × (total < 2 ^ 32)
IsLeafContent (Set blocks) = ⊥
IsLeafContent Unknown = ⊥

abbrev pub IsKey : Content → Type 0
IsKey (Inline bytes) = length bytes < 2 ^ 16
IsKey (Chain head total) = (head < 2 ^ 32) × (total < 2 ^ 32)
IsKey (Tree root) = ⊥
IsKey (Set blocks) = ⊥
IsKey Unknown = ⊥

abbrev pub IsHashContent : Content → Type 0
IsHashContent (Inline bytes) = Unit {0}
IsHashContent (Set blocks) = All (λ block. length block < 2 ^ 16) blocks
IsHashContent (Chain head total) = (head < 2 ^ 32) × (total < 2 ^ 32)
IsHashContent (Tree root) = root < 2 ^ 32
IsHashContent Unknown = ⊥

-- An item that is written on a page, at the offset that its entry of the index names, is read from there.

abbrev pub LeafItemsReadBack : Type 0
LeafItemsReadBack =
    (order : Order) (item : Item) (before after : List ℕ) (index : ℕ) → IsLeafContent item.content
    → offset_of order (before ++ (leaf_bytes order item ++ after)) index ≡ length before
    → leaf_item_at order (before ++ (leaf_bytes order item ++ after)) index ≡ item

abbrev pub InternalItemsReadBack : Type 0
InternalItemsReadBack =
    (order : Order) (item : InternalItem) (before after : List ℕ) (index : ℕ) → IsKey item.key → item.child < 2 ^ 32 → item.count < 2 ^ 32
    → offset_of order (before ++ (internal_bytes order item ++ after)) index ≡ length before
    → internal_item_at order (before ++ (internal_bytes order item ++ after)) index ≡ item

abbrev pub RecnoItemsReadBack : Type 0
RecnoItemsReadBack =
    (order : Order) (item : RecnoItem) (before after : List ℕ) (index : ℕ) → item.child < 2 ^ 32 → item.count < 2 ^ 32
    → offset_of order (before ++ (recno_bytes order item ++ after)) index ≡ length before
    → recno_item_at order (before ++ (recno_bytes order item ++ after)) index ≡ item

-- an item of a hash page also ends where the item before it begins
abbrev pub HashItemsReadBack : Type 0
HashItemsReadBack =
    (order : Order) (content : Content) (before after : List ℕ) (index : ℕ) → IsHashContent content
    → offset_of order (before ++ (hash_bytes order content ++ after)) index ≡ length before
    → hash_end order (before ++ (hash_bytes order content ++ after)) index ≡ length before + length (hash_bytes order content)
    → hash_item_at order (before ++ (hash_bytes order content ++ after)) index ≡ record { content = content; deleted = false }

-- Metadata pages: a page of a size, all of whose bytes are named here or 0.

-- bytes 0 to 71
unfoldable pub common_bytes : Order → FileKind → ℕ → ℕ → ℕ → ℕ → ℕ → List ℕ
common_bytes order kind size number free last flags =
    lsn_bytes order ++ (spelled 4 order number ++ (spelled 4 order (magic_of kind) ++ (spelled 4 order (version_of kind) ++ (spelled 4 order size
    ++ (0 ∷ type_of kind ∷ 0 ∷ 0 ∷ (spelled 4 order free ++ (spelled 4 order last ++ (zeros 12 ++ (spelled 4 order flags ++ zeros 20)))))))))

-- the last page of the file stands on page 0 alone
abbrev pub last_field : ℕ → ℕ → ℕ
last_field number last = if number == 0 then last else 0

unfoldable pub btree_bytes : Order → ℕ → ℕ → ℕ → BtreeMeta → List ℕ
btree_bytes order size number last meta =
    common_bytes order Btree size number meta.free (last_field number last) meta.flags
    ++ (zeros 4 ++ (spelled 4 order meta.minkey ++ (spelled 4 order meta.re_len ++ (spelled 4 order meta.re_pad
    ++ (spelled 4 order meta.root ++ zeros (size - 92))))))

unfoldable pub table_bytes : Order → ℕ → ℕ → ℕ → ℕ → HashMeta → List ℕ
table_bytes order size number last elements meta =
    common_bytes order Hash size number meta.free (last_field number last) meta.flags
    ++ (spelled 4 order meta.max_bucket ++ (spelled 4 order meta.high_mask ++ (spelled 4 order meta.low_mask ++ (spelled 4 order meta.ffactor
    ++ (spelled 4 order elements ++ (spelled 4 order 0x5e688dd1 ++ (flat_map (λ spare. spelled 4 order spare) meta.spares ++ zeros (size - 224))))))))

unfoldable pub queue_bytes : Order → ℕ → ℕ → QueueMeta → List ℕ
queue_bytes order size last meta =
    common_bytes order Queue size 0 0 last 0
    ++ (spelled 4 order meta.first ++ (spelled 4 order meta.current ++ (spelled 4 order meta.re_len ++ (spelled 4 order meta.re_pad
    ++ (spelled 4 order meta.per_page ++ zeros (size - 92))))))
