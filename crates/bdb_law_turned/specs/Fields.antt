-- Where the numbers of a page stand. Source: docs/FORMAT.md, "The other byte order"; their layout from "Metadata pages" to "Items".
use Rattle.std.specs.Prelude.{ℕ, zero, suc, ◌+◌, ◌*◌, List, [], ◌∷◌, ◌++◌, map, length, slice_index, get_or}
use Rattle.std.specs.List.{flat_map, range_with_len}
use Rattle.bdb_graph.specs.of_format.declared.pages.RecnoItem.{RecnoItem}
use Rattle.bdb_graph.specs.of_format.Terms.{BtreeFields, Chain, Content, DupLeaf, Free, Hash, HashFields, Inline, Internal, InternalItem, Item, Leaf, Listed}
use Rattle.bdb_graph.specs.of_format.Terms.{Meta, Metadata, NoType, Overflow, Page, Queue, QueueFields, RecnoInternal, RecnoLeaf, Set, Tree, Unknown, Zero}
use Rattle.bdb_graph.specs.of_format.Terms.{no_item}

-- a number on a page: where it begins, and how many bytes it has
pub record Field : Type 0 where
  pub begin : ℕ
  pub width : ℕ

abbrev pub field : ℕ → ℕ → Field
field begin width = record { begin = begin; width = width }

-- so many numbers of four bytes, one after another
abbrev pub fours : ℕ → ℕ → List Field
fours begin zero = []
fours begin (suc n) = field begin 4 ∷ fours (begin + 4) n

-- the numbers of a page header: the LSN's two, number, previous, next, entries, high free offset
abbrev pub header_fields : List Field
header_fields =
    field 0 4 ∷ field 4 4 ∷ field 8 4 ∷ field 12 4 ∷ field 16 4 ∷ field 20 2 ∷ field 22 2 ∷ []

-- the offsets of an index
abbrev pub index_fields : ℕ → List Field
index_fields entries = map (λ i. field (26 + 2 * i) 2) (range_with_len 0 entries)

-- the numbers of an item of a leaf, from its offset
abbrev pub leaf_fields : ℕ → Content → List Field
leaf_fields at (Inline bytes) = field at 2 ∷ []
leaf_fields at (Set blocks) = []
leaf_fields at (Chain head total) = field (at + 4) 4 ∷ field (at + 8) 4 ∷ []
leaf_fields at (Tree root) = field (at + 4) 4 ∷ []
leaf_fields at Unknown = []

-- those of the key of an internal item: of an overflow key, which is an overflow item of a leaf
abbrev pub key_fields : ℕ → Content → List Field
key_fields at (Chain head total) = field (at + 16) 4 ∷ field (at + 20) 4 ∷ []
key_fields at content = []

-- an internal item: its length, its child and its count, and those of its key
abbrev pub internal_fields : ℕ → InternalItem → List Field
internal_fields at item = field at 2 ∷ field (at + 4) 4 ∷ field (at + 8) 4 ∷ key_fields at item.key

abbrev pub recno_fields : ℕ → List Field
recno_fields at = field at 4 ∷ field (at + 4) 4 ∷ []

-- the two lengths of each block of a set
abbrev pub block_fields : ℕ → List (List ℕ) → List Field
block_fields at [] = []
block_fields at (block ∷ blocks) = field at 2 ∷ field (at + 2 + length block) 2 ∷ block_fields (at + 4 + length block) blocks

-- the numbers of an item of a hash page
abbrev pub hash_fields : ℕ → Content → List Field
hash_fields at (Inline bytes) = []
hash_fields at (Set blocks) = block_fields (at + 1) blocks
hash_fields at (Chain head total) = field (at + 4) 4 ∷ field (at + 8) 4 ∷ []
hash_fields at (Tree root) = field (at + 4) 4 ∷ []
hash_fields at Unknown = []

-- the numbers of a page with an index: of its header, its index, and its items, each from its offset
unfoldable pub listed_fields : {I : Type 0} → (ℕ → I → List Field) → I → Listed I → List Field
listed_fields item_fields none page =
    header_fields ++ (index_fields (length page.offsets)
    ++ flat_map (λ i. item_fields (slice_index page.offsets i) (get_or page.items i none)) (range_with_len 0 (length page.items)))

-- the numbers of all metadata: LSN, number, magic, version, page size; free and last page, partitions, cached counts, flags
abbrev pub common_fields : List Field
common_fields = fours 0 6 ++ fours 28 6

-- and those that a kind adds; of a hash its spares
abbrev pub kind_fields : Metadata → List Field
kind_fields (BtreeFields meta) = fours 76 4
kind_fields (HashFields meta) = fours 72 6 ++ fours 96 32
kind_fields (QueueFields meta) = fours 72 6

abbrev pub no_internal : InternalItem
no_internal = record { child = 0; count = 0; key = Unknown }

abbrev pub no_recno : RecnoItem
no_recno = record { child = 0; count = 0 }

-- all numbers of a page
unfoldable pub fields_of : Page → List Field
fields_of Zero = []
fields_of (Free header) = header_fields
fields_of (Meta fields) = common_fields ++ kind_fields fields
fields_of (Hash page) = listed_fields (λ at (item : Item). hash_fields at item.content) no_item page
fields_of (Internal page) = listed_fields internal_fields no_internal page
fields_of (RecnoInternal page) = listed_fields (λ at (item : RecnoItem). recno_fields at) no_recno page
fields_of (Leaf page) = listed_fields (λ at (item : Item). leaf_fields at item.content) no_item page
fields_of (RecnoLeaf page) = listed_fields (λ at (item : Item). leaf_fields at item.content) no_item page
fields_of (DupLeaf page) = listed_fields (λ at (item : Item). leaf_fields at item.content) no_item page
fields_of (Overflow header piece) = header_fields
fields_of (Queue number records) = fours 0 3
fields_of NoType = []
