-- Items of any page, and the pages on which they may stand. Source: docs/FORMAT.md, "Items".
use Rattle.std.specs.Prelude.{◌≡◌, ℕ, ◌^◌, ◌%◌, ◌<◌, ◌==◌, if◌then◌else◌, Bool, List, [], ◌∷◌}
use Rattle.std.specs.List.{list_any}
use Rattle.bdb_layout.specs.of_format.declared.kinds.Order.{Order}
use Rattle.bdb_layout.specs.of_format.declared.pages.RecnoItem.{RecnoItem}
use Rattle.bdb_layout.specs.of_format.Terms.{Chain, Content, Inline, InternalItem, IsHashContent, IsKey, IsLeafContent, Item, Set, Tree, Unknown, hash_bytes}
use Rattle.bdb_layout.specs.of_format.Terms.{internal_bytes, leaf_bytes, pad4, recno_bytes}

-- an item of a leaf, of an internal page, of an internal page of a recno tree, or of a hash page
pub data PageItem : Type 0 where
  OnLeaf : Item → PageItem
  OnInternal : InternalItem → PageItem
  OnRecno : RecnoItem → PageItem
  OnHash : Content → PageItem

-- the bytes that spell an item
abbrev pub item_bytes : Order → PageItem → List ℕ
item_bytes order (OnLeaf item) = leaf_bytes order item
item_bytes order (OnInternal item) = internal_bytes order item
item_bytes order (OnRecno item) = recno_bytes order item
item_bytes order (OnHash content) = hash_bytes order content

-- the types of leaves, of hash pages, and of all pages that take items
abbrev pub is_leaf_type : ℕ → Bool
is_leaf_type byte = list_any (λ t. t == byte) (5 ∷ 6 ∷ 12 ∷ [])

abbrev pub is_hash_type : ℕ → Bool
is_hash_type byte = list_any (λ t. t == byte) (2 ∷ 13 ∷ [])

abbrev pub takes_items : ℕ → Bool
takes_items byte = list_any (λ t. t == byte) (2 ∷ 3 ∷ 4 ∷ 5 ∷ 6 ∷ 12 ∷ 13 ∷ [])

-- a page of this type holds such items
abbrev pub holds_item : ℕ → PageItem → Bool
holds_item type (OnLeaf item) = is_leaf_type type
holds_item type (OnInternal item) = type == 3
holds_item type (OnRecno item) = type == 4
holds_item type (OnHash content) = is_hash_type type

-- an item of a leaf that names a set stands as data of a btree leaf
abbrev pub IsLeafPlace : ℕ → ℕ → Content → Type 0
IsLeafPlace type index (Tree root) = (type ≡ 5) × (index % 2 ≡ 1)
IsLeafPlace type index (Inline bytes) = Unit {0}
IsLeafPlace type index (Chain head total) = Unit {0}
IsLeafPlace type index (Set blocks) = Unit {0}
IsLeafPlace type index Unknown = Unit {0}

-- a set, on a hash page or off it, stands as data
abbrev pub IsHashPlace : ℕ → Content → Type 0
IsHashPlace index (Tree root) = index % 2 ≡ 1
IsHashPlace index (Set blocks) = index % 2 ≡ 1
IsHashPlace index (Inline bytes) = Unit {0}
IsHashPlace index (Chain head total) = Unit {0}
IsHashPlace index Unknown = Unit {0}

-- an item has its place at this index of a page of this type
abbrev pub HasPlace : ℕ → ℕ → PageItem → Type 0
HasPlace type index (OnLeaf item) = IsLeafPlace type index item.content
HasPlace type index (OnInternal item) = Unit {0}
HasPlace type index (OnRecno item) = Unit {0}
HasPlace type index (OnHash content) = IsHashPlace index content

-- the numbers of an item fit their fields
abbrev pub IsWritable : PageItem → Type 0
IsWritable (OnLeaf item) = IsLeafContent item.content
IsWritable (OnInternal item) = IsKey item.key × (item.child < 2 ^ 32) × (item.count < 2 ^ 32)
IsWritable (OnRecno item) = (item.child < 2 ^ 32) × (item.count < 2 ^ 32)
IsWritable (OnHash content) = IsHashContent content

-- the bytes that an item of a length takes: on all but hash pages a multiple of 4
abbrev pub extent : ℕ → ℕ → ℕ
extent type n = if is_hash_type type then n else pad4 n
