-- Internal pages that take the items of children: what an item takes of its page, and the page that holds them.
-- Source: docs/FORMAT.md, "Internal items".
use Rattle.std.specs.Prelude.{◌≡◌, ℕ, ◌+◌, ◌-◌, ◌<◌, ◌≤◌, false, List, [], ◌∷◌, length, map, None}
use Rattle.std.specs.List.{All, sum_by}
use Rattle.bdb_places.specs.of_format.declared.kinds.Order.{Order}
use Rattle.bdb_places.specs.of_format.declared.pages.Header.{Header}
use Rattle.bdb_places.specs.of_format.declared.pages.RecnoItem.{RecnoItem}
use Rattle.bdb_places.specs.of_format.Terms.{Chain, Content, File, Inline, Internal, InternalItem, Listed, Page, RecnoInternal, Set, Tree, Unknown}
use Rattle.bdb_places.specs.of_format.Terms.{abstract_page, byte_at, entries_of, four_at, is_deleted, offset_of, overwritten, pad4, page_at, page_code}
use Rattle.bdb_places.specs.of_format.Terms.{spelled}
use Rattle.bdb_pack.specs.of_law_grove.Growing.{IsSamePage}
use Rattle.bdb_law_levels.specs.declared.inner_type.InnerType.{InnerType}
use Rattle.bdb_law_levels.specs.declared.inner_type.InnerType.TheVariants.{Keyed, Numbered}
use Rattle.bdb_law_levels.specs.Nodes.{CountsTwo, HasItems, Node, keyed_item, keyed_items, numbered_item}
use Rattle.bdb_pack.specs.Built.{Built, bytes_of, with_page, with_zeros}
use Rattle.bdb_pack.specs.Items.{IsWritable, OnInternal, OnRecno, PageItem, item_bytes}
use Rattle.bdb_pack.specs.OnPages.{HasRoomOn}
use Rattle.bdb_pack.specs.Placing.{IsBegun, begun_page}
use Rattle.bdb_mkleaves.specs.LeafEntries.{room_of}

-- the type byte of an internal page
abbrev pub inner_number : InnerType → ℕ
inner_number Keyed = 3
inner_number Numbered = 4

-- a page of this type with an item for each of some nodes
abbrev pub HasNodes : InnerType → Page → List Node → Type 0
HasNodes Keyed page nodes = (l : Listed InternalItem) × (page ≡ Internal l) × (l.items ≡ keyed_items nodes)
HasNodes Numbered page nodes = (l : Listed RecnoItem) × (page ≡ RecnoInternal l) × (l.items ≡ map numbered_item nodes)

-- the bytes that an item with this key takes of its page: two of the index, and its own
abbrev pub key_cost : Content → ℕ
key_cost (Inline bytes) = 2 + pad4 (12 + length bytes)
key_cost (Chain head total) = 26
key_cost (Set blocks) = 0
key_cost (Tree root) = 0
key_cost Unknown = 0

-- those of an item that isn't the first, and of the first, whose key has no bytes
abbrev pub child_cost : InnerType → Node → ℕ
child_cost Keyed node = key_cost node.key
child_cost Numbered node = 10

abbrev pub first_cost : InnerType → ℕ
first_cost Keyed = 14
first_cost Numbered = 10

-- those of all
abbrev pub nodes_cost : InnerType → List Node → ℕ
nodes_cost inner [] = 0
nodes_cost inner (node ∷ nodes) = first_cost inner + sum_by (child_cost inner) nodes

-- no key of an internal page is marked deleted
abbrev pub HasLiveKeys : Order → List ℕ → Type 0
HasLiveKeys order bytes = byte_at bytes 25 ≡ 3 → (k : ℕ) → k < entries_of order bytes → is_deleted bytes (offset_of order bytes k) ≡ false

-- A page is an internal one of this type and level that takes items, with its number, and holds an item for each of these nodes.
pub record HoldsChildren (inner : InnerType) (order : Order) (bytes : List ℕ) (p level : ℕ) (nodes : List Node) : Type 0 where
  pub begun : IsBegun order bytes
  pub type_is : byte_at bytes 25 ≡ inner_number inner
  pub level_is : byte_at bytes 24 ≡ level
  pub number : four_at order bytes 8 ≡ p
  pub is : HasNodes inner (abstract_page order bytes) nodes
  pub live : HasLiveKeys order bytes
  pub room : room_of order bytes + nodes_cost inner nodes ≡ length bytes - 26

-- it does in its place among the pages
abbrev pub HoldsChildrenOn : InnerType → Built → ℕ → ℕ → List Node → Type 0
HoldsChildrenOn inner built p level nodes = HoldsChildren inner built.order (bytes_of built p) p level nodes

-- the key with which a node is added to others: none for the first
abbrev pub added_key : List Node → Node → Content
added_key [] node = Inline []
added_key (other ∷ others) node = node.key

-- its item
abbrev pub child_item : InnerType → Content → Node → PageItem
child_item Keyed key node = OnInternal (keyed_item key node)
child_item Numbered key node = OnRecno (numbered_item node)

-- a page takes an item at its end: it is an internal one, the item fits its fields, and there is room for it
pub record CanTakeChild (inner : InnerType) (built : Built) (p : ℕ) (item : PageItem) : Type 0 where
  pub level : ℕ
  pub nodes : List Node
  pub holds : HoldsChildrenOn inner built p level nodes
  pub fits : IsWritable item
  pub room : HasRoomOn built p (item_bytes built.order item)

-- the header of an internal page without items
abbrev pub inner_header : InnerType → ℕ → ℕ → Header
inner_header inner number level =
    record { number = number; previous = 0; next = 0; entries = 0; high_free = 0; level = level; page_type = inner_number inner }

-- the pages with such a page at their end
abbrev pub with_inner : InnerType → Built → ℕ → Built
with_inner inner built level =
    let number : ℕ = length built.pages in
    with_page (with_zeros built) number (begun_page built.order (bytes_of (with_zeros built) number) (inner_header inner number level))

-- Keys in chains.

-- the first page of a chain that counts two references, and the pages with it
abbrev pub counting_two : Order → List ℕ → List ℕ
counting_two order page = overwritten page 20 (spelled 2 order 2)

abbrev pub raised : Built → ℕ → Built
raised built head = with_page built head (counting_two built.order (bytes_of built head))

-- a page of a chain that counts at most two references
pub record CountsFew (order : Order) (bytes : List ℕ) : Type 0 where
  pub long : 26 ≤ length bytes
  pub type_is : byte_at bytes 25 ≡ 7
  pub few : entries_of order bytes ≤ 2

-- and one that counts one
pub record CountsOne (order : Order) (bytes : List ℕ) : Type 0 where
  pub long : 26 ≤ length bytes
  pub type_is : byte_at bytes 25 ≡ 7
  pub one : entries_of order bytes ≡ 1

-- The laws.

-- an internal page with items has no row of form
abbrev pub ChildrenAreFormed : Type 0
ChildrenAreFormed =
    (inner : InnerType) (order : Order) (bytes : List ℕ) (p level : ℕ) (nodes : List Node) → HoldsChildren inner order bytes p level nodes
    → 2 ≤ level → 0 < length nodes → page_code order p bytes ≡ None

-- the keys of nodes but the first are in their items, or in chains that count two references; of pages without keys nothing is asked
abbrev pub KeysCount : InnerType → File → List Node → Type 0
KeysCount Keyed g [] = Unit {0}
KeysCount Keyed g (node ∷ nodes) = All (λ (other : Node). CountsTwo g other.key) nodes
KeysCount Numbered g nodes = Unit {0}

-- in each file that keeps its page it has their items
abbrev pub ChildrenStand : Type 0
ChildrenStand =
    (inner : InnerType) (built : Built) (p level : ℕ) (nodes : List Node) (g : File) → HoldsChildrenOn inner built p level nodes → 0 < length nodes
    → KeysCount inner g nodes → page_at g p ≡ abstract_page built.order (bytes_of built p) → HasItems inner g p level nodes

-- a page of a chain that counts two references is as before, but that it counts more; its form stays
abbrev pub RaisedPagesStand : Type 0
RaisedPagesStand =
    (order : Order) (p : ℕ) (bytes : List ℕ) → CountsFew order bytes
    → IsSamePage (abstract_page order bytes) (abstract_page order (counting_two order bytes))
    × (page_code order p (counting_two order bytes) ≡ page_code order p bytes)
