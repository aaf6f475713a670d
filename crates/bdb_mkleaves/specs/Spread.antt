-- How many pages a tree has: units are spread over leaves by what they take, each level over the pages below it, and long values have chains.
-- Source: docs/FORMAT.md, "Built trees" and "Stored values".
use Rattle.std.specs.Prelude.{◌≡◌, ℕ, zero, suc, ◌+◌, ◌-◌, ◌/◌, ◌<◌, nat_le, if◌then◌else◌, Bool, true, false, List, [], ◌∷◌, ◌++◌, length, map}
use Rattle.std.specs.List.{AllZip, sum_by}
use Rattle.bdb_places.specs.of_format.Terms.{pad4}
use Rattle.bdb_law_levels.specs.declared.inner_type.InnerType.{InnerType}
use Rattle.bdb_law_levels.specs.declared.inner_type.InnerType.TheVariants.{Keyed, Numbered}
use Rattle.bdb_law_levels.specs.Nodes.{Node}
use Rattle.bdb_mkleaves.specs.Inner.{child_cost, first_cost}
use Rattle.bdb_mkleaves.specs.Laid.{inner_of}
use Rattle.bdb_mkleaves.specs.Levels.{heads_in, node_over}
use Rattle.bdb_mkleaves.specs.Units.{TreeUnit, KeyedUnit, EntryUnit, chain_pages, has_own_tree, page_room, unit_cost}
use Rattle.bdb_mkleaves.specs.declared.leaf_type.LeafType.{LeafType}
use Rattle.bdb_mkleaves.specs.declared.leaf_type.LeafType.TheVariants.{Records, SortedData}

-- Things are put on pages from left to right. The open page has so many bytes left: where they are enough for what the next thing takes, it is put
-- there; else it begins a page, of which it takes `first` bytes.
abbrev pub spread_on : {A : Type 0} → ℕ → (A → ℕ) → (A → ℕ) → ℕ → List A → List A → List (List A)
spread_on room first cost left page [] = page ∷ []
spread_on room first cost left page (x ∷ xs) =
    if nat_le (cost x) left then spread_on room first cost (left - cost x) (page ++ (x ∷ [])) xs
    else page ∷ spread_on room first cost (room - first x) (x ∷ []) xs

-- Leaves.

-- the units of each leaf: there is one leaf at least
abbrev pub spread_units : ℕ → List TreeUnit → List (List TreeUnit)
spread_units size units = spread_on (page_room size) (unit_cost size) (unit_cost size) (page_room size) [] units

-- Levels.

-- what an item with a key takes of an internal page where it isn't the first
abbrev pub key_item_cost : ℕ → List ℕ → ℕ
key_item_cost size key = if nat_le (length key) (size / 8) then 2 + pad4 (12 + length key) else 26

abbrev pub inner_cost : InnerType → ℕ → List ℕ → ℕ
inner_cost Keyed size key = key_item_cost size key
inner_cost Numbered size key = 10

abbrev pub first_or : {A : Type 0} → A → List A → A
first_or other [] = other
first_or other (x ∷ xs) = x

-- the items of each page of a level, by what they take
abbrev pub spread_items : ℕ → ℕ → List ℕ → List (List ℕ)
spread_items room first [] = []
spread_items room first (cost ∷ costs) = spread_on room (λ (c : ℕ). first) (λ (c : ℕ). c) (room - first) (cost ∷ []) costs

-- how many pages stand over pages whose items take so much: levels up to one of a single page. The item over a page takes what its first one
-- would beside others, since both have the same key. There are fewer levels than pages.
abbrev pub pages_over : ℕ → ℕ → ℕ → List ℕ → ℕ
pages_over zero room first costs = 0
pages_over (suc most) room first costs =
    if nat_le (length costs) 1 then 0
    else
    (let groups : List (List ℕ) = spread_items room first costs in
    length groups + pages_over most room first (map (first_or 0) groups))

-- the nodes below each page of a level, by what their items take
abbrev pub spread_nodes : InnerType → ℕ → List Node → List (List Node)
spread_nodes inner room [] = []
spread_nodes inner room (node ∷ nodes) =
    spread_on room (λ (other : Node). first_cost inner) (child_cost inner) (room - first_cost inner) (node ∷ []) nodes

-- a node stands over others: it counts what they count together, and has their leaves and the key of the first
abbrev pub IsNodeOver : Node → List Node → Type 0
IsNodeOver node nodes = node ≡ node_over node.page nodes

-- Levels over nodes, up to one of a single page: each stands over all pages of the one below, whose items are spread over its pages.
abbrev pub AreSpreadLevels : InnerType → ℕ → List Node → List (List Node) → Type 0
AreSpreadLevels inner room nodes [] = length nodes ≡ 1
AreSpreadLevels inner room nodes (level ∷ levels) =
    (1 < length nodes) × AllZip IsNodeOver level (spread_nodes inner room nodes) × AreSpreadLevels inner room level levels

-- the heads of chains that the items of levels name
abbrev pub named_heads : InnerType → ℕ → List Node → List (List Node) → List ℕ
named_heads inner room nodes [] = []
named_heads inner room nodes (level ∷ levels) = heads_in inner (spread_nodes inner room nodes) ++ named_heads inner room level levels

-- Values and trees.

-- what an item over a leaf has of its first unit: the key, or the datum of a set
abbrev pub unit_key : TreeUnit → List ℕ
unit_key (KeyedUnit key values) = key
unit_key (EntryUnit value deleted) = value

abbrev pub leaf_key : List TreeUnit → List ℕ
leaf_key [] = []
leaf_key (unit ∷ units) = unit_key unit

-- the leaves of a tree of these units, and the levels over them
abbrev pub leaves_and_levels : LeafType → ℕ → List TreeUnit → ℕ
leaves_and_levels type size units =
    let leaves : List (List TreeUnit) = spread_units size units in
    length leaves
    + pages_over (length leaves) (page_room size) (first_cost (inner_of type))
    (map (λ (leaf : List TreeUnit). inner_cost (inner_of type) size (leaf_key leaf)) leaves)

-- the leaves of a set, by whether it is sorted
abbrev pub set_type : Bool → LeafType
set_type true = SortedData
set_type false = Records

-- the tree of a key's data
abbrev pub set_pages : ℕ → Bool → List (List ℕ) → ℕ
set_pages size sorted values =
    sum_by (chain_pages size) values + leaves_and_levels (set_type sorted) size (map (λ value. EntryUnit value false) values)

-- the pages of a unit's own: chains, and the tree of its data
abbrev pub own_pages : ℕ → Bool → TreeUnit → ℕ
own_pages size sorted (KeyedUnit key values) =
    chain_pages size key + (if has_own_tree size key values then set_pages size sorted values else sum_by (chain_pages size) values)
own_pages size sorted (EntryUnit value deleted) = chain_pages size value

-- a whole tree
abbrev pub tree_size : LeafType → ℕ → Bool → List TreeUnit → ℕ
tree_size type size sorted units = sum_by (own_pages size sorted) units + leaves_and_levels type size units
