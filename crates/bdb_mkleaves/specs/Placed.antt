-- Units as they stand on the leaves of one file: the entries of each, and what the leaves hold by them. Source: docs/FORMAT.md, "Built trees".
use Rattle.std.specs.Prelude.{◌≡◌, ℕ, ◌/◌, ◌<◌, ◌≤◌, ◌==◌, ◌&&◌, not, Bool, true, false, List, [], ◌∷◌, length, map}
use Rattle.std.specs.List.{All, flat_map, list_any, sum_by}
use Rattle.bdb_places.specs.of_format.declared.kinds.Kind.TheVariants.{Btree, Recno}
use Rattle.bdb_places.specs.of_format.declared.kinds.Order.{Order}
use Rattle.bdb_places.specs.of_format.declared.metadata.BtreeMeta.{BtreeMeta}
use Rattle.bdb_places.specs.of_format.Terms.{BtreeFields, Chain, Content, File, Inline, Item, Set, StoredPair, Tree, Unknown, ascends, data_of, has_duplicate}
use Rattle.bdb_places.specs.of_format.Terms.{has_unsorted, has_wrong_record, has_wrong_set, is_out_of_order, is_recno, is_wrong_set, leaves, list_of}
use Rattle.bdb_places.specs.of_format.Terms.{neighbours, page_at, pairs_of, value_of}
use Rattle.bdb_law_levels.specs.Contents.{BeginsWith, Follow, pairs_below}
use Rattle.bdb_law_levels.specs.Nodes.{Node}
use Rattle.bdb_mkleaves.specs.LeafEntries.{Entry, IsLeafIn, entry_cost, own_entry, shared_entry}
use Rattle.bdb_mkleaves.specs.Units.{TreeUnit, KeyedUnit, EntryUnit, has_own_tree, key_of, list_of_units, unit_cost, units_on}
use Rattle.bdb_mkleaves.specs.declared.leaf_type.LeafType.{LeafType}
use Rattle.bdb_mkleaves.specs.declared.leaf_type.LeafType.TheVariants.{Pairs, Records, SortedData}

-- an item with the value that it has, on its page or in a chain
pub record ValueItem : Type 0 where
  pub item : Item
  pub value : List ℕ

-- a unit with its items: a record or a datum of a set; a key with its data on the leaf, the first and more;
-- a key with the root of the tree of its data, and these
pub data Placed : Type 0 where
  PlacedEntry : ValueItem → Placed
  PlacedPairs : ValueItem → ValueItem → List ValueItem → Placed
  PlacedTree : ValueItem → ℕ → List (List ℕ) → Placed

abbrev pub tree_item : ℕ → Item
tree_item root = record { content = Tree root; deleted = false }

-- a further datum of a key, after the key once more
abbrev pub further_entries : ValueItem → ValueItem → List Entry
further_entries key datum = shared_entry key.item ∷ own_entry datum.item ∷ []

abbrev pub entries_of : Placed → List Entry
entries_of (PlacedEntry entry) = own_entry entry.item ∷ []
entries_of (PlacedPairs key first more) = own_entry key.item ∷ own_entry first.item ∷ flat_map (further_entries key) more
entries_of (PlacedTree key root values) = own_entry key.item ∷ own_entry (tree_item root) ∷ []

abbrev pub unit_of : Placed → TreeUnit
unit_of (PlacedEntry entry) = EntryUnit entry.value entry.item.deleted
unit_of (PlacedPairs key first more) = KeyedUnit key.value (first.value ∷ map (λ (datum : ValueItem). datum.value) more)
unit_of (PlacedTree key root values) = KeyedUnit key.value values

-- What the items hold in a file.

abbrev pub HasValue : File → ValueItem → Type 0
HasValue g stored = value_of g stored.item.content ≡ stored.value

-- one value, and no set
abbrev pub IsOneValue : Content → Type 0
IsOneValue (Inline bytes) = Unit {0}
IsOneValue (Chain head total) = Unit {0}
IsOneValue (Set blocks) = ⊥
IsOneValue (Tree root) = ⊥
IsOneValue Unknown = ⊥

-- a live datum that is one value
pub record IsDatum (g : File) (datum : ValueItem) : Type 0 where
  pub live : datum.item.deleted ≡ false
  pub one : IsOneValue datum.item.content
  pub value : HasValue g datum

-- a live key
pub record IsKey (g : File) (key : ValueItem) : Type 0 where
  pub live : key.item.deleted ≡ false
  pub value : HasValue g key

-- a unit stands on a leaf of this type: keys with data on one of pairs, records and data of a set on the others
abbrev pub StandsPlaced : LeafType → File → Placed → Type 0
StandsPlaced Pairs g (PlacedEntry entry) = ⊥
StandsPlaced Pairs g (PlacedPairs key first more) = IsKey g key × IsDatum g first × All (IsDatum g) more
StandsPlaced Pairs g (PlacedTree key root values) = IsKey g key × (data_of g (Tree root) ≡ values)
StandsPlaced Records g (PlacedEntry entry) = HasValue g entry
StandsPlaced Records g (PlacedPairs key first more) = ⊥
StandsPlaced Records g (PlacedTree key root values) = ⊥
StandsPlaced SortedData g (PlacedEntry entry) = HasValue g entry
StandsPlaced SortedData g (PlacedPairs key first more) = ⊥
StandsPlaced SortedData g (PlacedTree key root values) = ⊥

-- a page with the units that were put on it
pub record LeafUnits : Type 0 where
  pub page : ℕ
  pub units : List Placed

-- in a file it is a leaf of this type with the entries of these units, each of which stands
pub record HoldsUnits (type : LeafType) (g : File) (leaf : LeafUnits) : Type 0 where
  pub previous : ℕ
  pub next : ℕ
  pub is_leaf : IsLeafIn type g leaf.page previous next (flat_map entries_of leaf.units)
  pub stand : All (StandsPlaced type g) leaf.units

abbrev pub pages_of : List LeafUnits → List ℕ
pages_of placed = map (λ (leaf : LeafUnits). leaf.page) placed

-- the units of some leaves, from left to right
abbrev pub units_in : List LeafUnits → List TreeUnit
units_in placed = flat_map (λ (leaf : LeafUnits). map unit_of leaf.units) placed

-- all pairs of some leaves
abbrev pub pairs_on : File → List LeafUnits → List StoredPair
pairs_on g placed = flat_map (pairs_of g) (pages_of placed)

-- What a database allows of its units.

abbrev pub has_several : Placed → Bool
has_several (PlacedEntry entry) = false
has_several (PlacedPairs key first []) = false
has_several (PlacedPairs key first (next ∷ more)) = true
has_several (PlacedTree key root values) = true

abbrev pub values_in : TreeUnit → List (List ℕ)
values_in (KeyedUnit key values) = values
values_in (EntryUnit value deleted) = []

abbrev pub has_wrong_root : File → Bool → Placed → Bool
has_wrong_root g sorted (PlacedEntry entry) = false
has_wrong_root g sorted (PlacedPairs key first more) = false
has_wrong_root g sorted (PlacedTree key root values) = is_wrong_set g sorted (Tree root)

-- several data, or a tree of them, stand where duplicates may; sorted ones ascend; and the tree's root has a right type
pub record IsAllowed (g : File) (duplicates sorted : Bool) (unit : Placed) : Type 0 where
  pub several : duplicates ≡ false → has_several unit ≡ false
  pub in_order : sorted ≡ true → ascends (values_in (unit_of unit)) ≡ true
  pub root : has_wrong_root g sorted unit ≡ false

-- of these pairs the rows Duplicates, DuplicateKind, KeyOrder and DuplicateOrder hold at no page
pub record KeepsRules (g : File) (duplicates sorted : Bool) (pairs : List StoredPair) (p : ℕ) : Type 0 where
  pub single : (not duplicates && has_duplicate pairs p) ≡ false
  pub kinds : has_wrong_set g sorted pairs p ≡ false
  pub keys_ascend : list_any (λ (two : StoredPair × StoredPair). two.1.page == p && is_out_of_order two) (neighbours pairs) ≡ false
  pub data_ascend : (sorted && has_unsorted g pairs p) ≡ false

-- a live record has the length of all
abbrev pub HasLength : ℕ → Placed → Type 0
HasLength n (PlacedEntry entry) = entry.item.deleted ≡ false → length entry.value ≡ n
HasLength n (PlacedPairs key first more) = Unit {0}
HasLength n (PlacedTree key root values) = Unit {0}

-- How values stand.

-- on the page where it's at most an eighth of a page long, and else in a chain
abbrev pub StandsBySize : ℕ → Content → List ℕ → Type 0
StandsBySize size (Inline bytes) value = (bytes ≡ value) × (length value ≤ size / 8)
StandsBySize size (Chain head total) value = size / 8 < length value
StandsBySize size (Set blocks) value = ⊥
StandsBySize size (Tree root) value = ⊥
StandsBySize size Unknown value = ⊥

abbrev pub IsStoredBySize : ℕ → ValueItem → Type 0
IsStoredBySize size stored = StandsBySize size stored.item.content stored.value

-- each value of a unit does, and the data have a tree exactly where they'd take too much of the leaf
abbrev pub IsPlacedBySize : ℕ → Placed → Type 0
IsPlacedBySize size (PlacedEntry entry) = IsStoredBySize size entry
IsPlacedBySize size (PlacedPairs key first more) =
    IsStoredBySize size key × All (IsStoredBySize size) (first ∷ more)
    × (has_own_tree size key.value (values_in (unit_of (PlacedPairs key first more))) ≡ false)
IsPlacedBySize size (PlacedTree key root values) = IsStoredBySize size key × (has_own_tree size key.value values ≡ true)

-- The laws.

-- the units that are read from a leaf are those that were put on it
abbrev pub UnitsAreRead : Type 0
UnitsAreRead =
    (g : File) (leaf : LeafUnits)
    → (HoldsUnits Pairs g leaf → units_on g Btree leaf.page ≡ map unit_of leaf.units)
    × (HoldsUnits Records g leaf → units_on g Recno leaf.page ≡ map unit_of leaf.units)

-- the list of a database is that of its units
abbrev pub UnitsAreListed : Type 0
UnitsAreListed =
    (g : File) (meta : BtreeMeta) (placed : List LeafUnits) → leaves g meta.root ≡ pages_of placed
    → (is_recno meta ≡ false → All (HoldsUnits Pairs g) placed → list_of g (BtreeFields meta) ≡ list_of_units Btree (units_in placed))
    × (is_recno meta ≡ true → All (HoldsUnits Records g) placed → list_of g (BtreeFields meta) ≡ list_of_units Recno (units_in placed))

-- units whose keys ascend, and each of which is allowed, keep the rules of pairs
abbrev pub UnitsKeepRules : Type 0
UnitsKeepRules =
    (g : File) (duplicates sorted : Bool) (placed : List LeafUnits) (p : ℕ) → All (HoldsUnits Pairs g) placed
    → ascends (map key_of (units_in placed)) ≡ true → All (λ (leaf : LeafUnits). All (IsAllowed g duplicates sorted) leaf.units) placed
    → KeepsRules g duplicates sorted (pairs_on g placed) p

-- no record has a wrong length where each live one has that of all
abbrev pub RecordsKeepLength : Type 0
RecordsKeepLength =
    (g : File) (meta : BtreeMeta) (leaf : LeafUnits) → HoldsUnits Records g leaf → All (HasLength meta.re_len) leaf.units
    → has_wrong_record g meta (page_at g leaf.page) ≡ false

-- pairs of units whose keys ascend follow each other, and those of a leaf begin with the key of its first unit
abbrev pub PairsFollow : Type 0
PairsFollow =
    (g : File)
    → ((placed : List LeafUnits) → All (HoldsUnits Pairs g) placed → ascends (map key_of (units_in placed)) ≡ true → Follow (pairs_on g placed))
    × ((node : Node) (p : ℕ) (unit : Placed) (units : List Placed) → HoldsUnits Pairs g (record { page = p; units = unit ∷ units })
    → node.leaves ≡ p ∷ [] → value_of g node.key ≡ key_of (unit_of unit) → BeginsWith g node (pairs_below g node))

-- a unit takes of its leaf what its entries take
abbrev pub UnitsCost : Type 0
UnitsCost =
    (order : Order) (size : ℕ) (unit : Placed) → IsPlacedBySize size unit
    → sum_by (entry_cost order) (entries_of unit) ≡ unit_cost size (unit_of unit)
