-- Leaves that take entries: what an entry takes of its leaf, and the leaf that holds them. Source: docs/FORMAT.md, "Leaf items".
use Rattle.std.specs.Prelude.{◌≡◌, ℕ, ◌+◌, ◌-◌, ◌%◌, ◌/◌, ◌<◌, ◌≤◌, not, true, false, if◌then◌else◌, Bool, List, [], ◌∷◌, length, map, get_or, None}
use Rattle.std.specs.List.{flat_map, sum_by}
use Rattle.bdb_places.specs.of_format.declared.kinds.Order.{Order}
use Rattle.bdb_places.specs.of_format.declared.pages.Header.{Header}
use Rattle.bdb_places.specs.of_format.Terms.{Content, DupLeaf, File, Item, Leaf, Listed, Page, RecnoLeaf, StoredPair, abstract_page, byte_at, contents_in}
use Rattle.bdb_places.specs.of_format.Terms.{entries_in, four_at, index_end, is_shared_key, leaf_bytes, no_item, overwritten, pad4, page_at, page_code}
use Rattle.bdb_places.specs.of_format.Terms.{pairs_in, spelled, value_of}
use Rattle.bdb_pack.specs.Built.{Built, bytes_of, with_page, with_zeros}
use Rattle.bdb_pack.specs.Items.{HasPlace, IsWritable, OnLeaf}
use Rattle.bdb_pack.specs.Placing.{IsBegun, begun_page, high_free_of}
use Rattle.bdb_mkleaves.specs.declared.leaf_type.LeafType.{LeafType}
use Rattle.bdb_mkleaves.specs.declared.leaf_type.LeafType.TheVariants.{Pairs, Records, SortedData}

-- the type byte of a leaf
abbrev pub type_number : LeafType → ℕ
type_number Pairs = 5
type_number Records = 6
type_number SortedData = 12

-- how many pairs or entries such a leaf has, by the entries of its index
abbrev pub count_of : LeafType → ℕ → ℕ
count_of Pairs n = n / 2
count_of Records n = n
count_of SortedData n = n

-- the page of this type with these items
abbrev pub leaf_of : LeafType → Listed Item → Page
leaf_of Pairs page = Leaf page
leaf_of Records page = RecnoLeaf page
leaf_of SortedData page = DupLeaf page

-- an entry of a leaf: its item, and whether it is a shared key, the item of the entry two before it
pub record Entry : Type 0 where
  pub item : Item
  pub shares : Bool

abbrev pub own_entry : Item → Entry
own_entry item = record { item = item; shares = false }

abbrev pub shared_entry : Item → Entry
shared_entry item = record { item = item; shares = true }

abbrev pub no_entry : Entry
no_entry = own_entry no_item

-- the bytes that an item takes of a leaf beside its entry
abbrev pub item_cost : Order → Item → ℕ
item_cost order item = pad4 (length (leaf_bytes order item))

-- the bytes that an entry takes of it: two of the index, and those of its own item
abbrev pub entry_cost : Order → Entry → ℕ
entry_cost order entry = 2 + (if entry.shares then 0 else item_cost order entry.item)

-- the bytes that are free between the index and the items
abbrev pub room_of : Order → List ℕ → ℕ
room_of order page = high_free_of order page - index_end order page

-- A page is a leaf of this type that takes items, with its number, between two others, and holds these entries.
pub record HoldsEntries (type : LeafType) (order : Order) (bytes : List ℕ) (p previous next : ℕ) (entries : List Entry) : Type 0 where
  pub begun : IsBegun order bytes
  pub type_is : byte_at bytes 25 ≡ type_number type
  pub level : byte_at bytes 24 ≡ 1
  pub number : four_at order bytes 8 ≡ p
  pub before : four_at order bytes 12 ≡ previous
  pub after : four_at order bytes 16 ≡ next
  pub page : Listed Item
  pub is : abstract_page order bytes ≡ leaf_of type page
  pub items : page.items ≡ map (λ (entry : Entry). entry.item) entries
  pub offsets : length page.offsets ≡ length entries
  pub above : (k : ℕ) → k < length page.offsets → high_free_of order bytes ≤ get_or page.offsets k 0
  pub shares : (k : ℕ) → k < length entries → is_shared_key page.offsets k ≡ (get_or entries k no_entry).shares
  pub room : room_of order bytes + sum_by (entry_cost order) entries ≡ length bytes - 26

-- it does in its place among the pages
abbrev pub HoldsEntriesOn : LeafType → Built → ℕ → ℕ → ℕ → List Entry → Type 0
HoldsEntriesOn type built p previous next entries = HoldsEntries type built.order (bytes_of built p) p previous next entries

-- a leaf takes an item at its end: the item fits its fields, has its place there, and there is room for it and its entry
pub record CanTakeEntry (built : Built) (p : ℕ) (item : Item) : Type 0 where
  pub type : LeafType
  pub previous : ℕ
  pub next : ℕ
  pub entries : List Entry
  pub holds : HoldsEntriesOn type built p previous next entries
  pub fits : IsWritable (OnLeaf item)
  pub place : HasPlace (type_number type) (length entries) (OnLeaf item)
  pub room : 2 + item_cost built.order item ≤ room_of built.order (bytes_of built p)

-- the key of the last pair once more
abbrev pub shared_key : List Entry → Entry
shared_key entries = shared_entry (get_or entries (length entries - 2) no_entry).item

-- a leaf with whole pairs, one at least, takes its last key once more: there is room for an entry
pub record CanShareKey (built : Built) (p : ℕ) : Type 0 where
  pub previous : ℕ
  pub next : ℕ
  pub entries : List Entry
  pub holds : HoldsEntriesOn Pairs built p previous next entries
  pub even : length entries % 2 ≡ 0
  pub some : 2 ≤ length entries
  pub room : 2 ≤ room_of built.order (bytes_of built p)

-- the header of a leaf that is added after another one: of level 1, with no next page yet
abbrev pub leaf_header : LeafType → ℕ → ℕ → Header
leaf_header type number previous =
    record { number = number; previous = previous; next = 0; entries = 0; high_free = 0; level = 1; page_type = type_number type }

-- the pages with such a leaf at their end
abbrev pub with_leaf : LeafType → Built → ℕ → Built
with_leaf type built previous =
    let number : ℕ = length built.pages in
    with_page (with_zeros built) number (begun_page built.order (bytes_of (with_zeros built) number) (leaf_header type number previous))

-- a page with another number in four bytes of its header: its own at 8, that of the page before at 12, that of the next at 16
abbrev pub with_field : Order → List ℕ → ℕ → ℕ → List ℕ
with_field order page at number = overwritten page at (spelled 4 order number)

-- What a leaf holds, by its entries.

-- what an entry holds itself: a shared key nothing
abbrev pub own_content : Entry → List Content
own_content entry = if entry.shares then [] else entry.item.content ∷ []

-- the contents of a leaf
abbrev pub contents_of : LeafType → List Entry → List Content
contents_of Pairs entries = flat_map own_content entries
contents_of Records entries = map (λ (entry : Entry). entry.item.content) entries
contents_of SortedData entries = map (λ (entry : Entry). entry.item.content) entries

-- the pairs of a leaf, by two entries each
abbrev pub pair_in : File → ℕ → Entry → Entry → StoredPair
pair_in g p key datum = record {
  page = p;
  key = value_of g key.item.content;
  data_item = datum.item.content;
  live = not datum.item.deleted;
  shares = key.shares;
}

abbrev pub pairs_from : File → ℕ → List Entry → List StoredPair
pairs_from g p [] = []
pairs_from g p (key ∷ []) = []
pairs_from g p (key ∷ datum ∷ entries) = pair_in g p key datum ∷ pairs_from g p entries

-- a page with these entries holds their pairs, or their items
abbrev pub HoldsIn : LeafType → File → ℕ → Listed Item → List Entry → Type 0
HoldsIn Pairs g p page entries = pairs_in g p (Leaf page) ≡ pairs_from g p entries
HoldsIn Records g p page entries = entries_in (RecnoLeaf page) ≡ map (λ (entry : Entry). entry.item) entries
HoldsIn SortedData g p page entries = entries_in (DupLeaf page) ≡ map (λ (entry : Entry). entry.item) entries

-- A page of a file is a leaf with these entries between two others.
pub record IsLeafIn (type : LeafType) (g : File) (p previous next : ℕ) (entries : List Entry) : Type 0 where
  pub page : Listed Item
  pub is : page_at g p ≡ leaf_of type page
  pub level : page.header.level ≡ 1
  pub previous_is : page.header.previous ≡ previous
  pub next_is : page.header.next ≡ next
  pub items : page.items ≡ map (λ (entry : Entry). entry.item) entries
  pub contents : contents_in (leaf_of type page) ≡ contents_of type entries
  pub holds : HoldsIn type g p page entries

-- The laws.

-- a leaf that holds entries has no row of form; one of pairs has two for each
abbrev pub LeavesAreFormed : Type 0
LeavesAreFormed =
    (type : LeafType) (order : Order) (bytes : List ℕ) (p previous next : ℕ) (entries : List Entry)
    → HoldsEntries type order bytes p previous next entries
    → (type ≡ Pairs → length entries % 2 ≡ 0) → page_code order p bytes ≡ None

-- in each file that keeps its page it is a leaf with them
abbrev pub LeavesStand : Type 0
LeavesStand =
    (type : LeafType) (built : Built) (p previous next : ℕ) (entries : List Entry) (g : File) → HoldsEntriesOn type built p previous next entries
    → (type ≡ Pairs → length entries % 2 ≡ 0) → page_at g p ≡ abstract_page built.order (bytes_of built p) → IsLeafIn type g p previous next entries
