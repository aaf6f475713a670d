-- Trees as a builder has laid them: leaves with their units, what these name, and the levels over them, in one file.
-- Source: docs/FORMAT.md, "Built trees", "References" and "Stage 3, references" to "Stage 8, contents".
use Rattle.std.specs.Prelude.{◌≡◌, ◌⊎◌, ℕ, ◌/◌, ◌<◌, ◌≤◌, ◌==◌, ◌||◌, if◌then◌else◌, Bool, true, false, List, [], ◌∷◌, ◌++◌, length, map, Some}
use Rattle.std.specs.List.{All, AllZip, Contains, filter, flat_map, list_any, sum_by}
use Rattle.bdb_places.specs.of_format.declared.metadata.BtreeMeta.{BtreeMeta}
use Rattle.bdb_places.specs.of_format.declared.metadata.FileKind.TheVariants.{Queue}
use Rattle.bdb_places.specs.of_format.declared.references.Sort.{Sort}
use Rattle.bdb_places.specs.of_format.Terms.{BtreeFields, Content, DupLeaf, File, Inline, Item, Leaf, Page, RecnoLeaf, Tree, ascends, btree_kind}
use Rattle.bdb_places.specs.of_format.Terms.{counts_records, data_of, first_or_zero, has_duplicates, has_type, header_in, is_fixed, is_recno, is_sorted}
use Rattle.bdb_places.specs.of_format.Terms.{is_wrong_set, leaves, page_at}
use Rattle.bdb_pack.specs.of_law_grove.Part.{IsBranch, IsPart, has_wrong_place}
use Rattle.bdb_pack.specs.of_law_grove.Leaves.{Ascend, ContentFits, FilledLeaf, SetFits, pages_held}
use Rattle.bdb_law_levels.specs.Links.{leaf_types}
use Rattle.bdb_law_levels.specs.Nodes.{IsTower, Node}
use Rattle.bdb_law_levels.specs.Roots.{is_of, pages_of as level_pages}
use Rattle.bdb_law_levels.specs.declared.inner_type.InnerType.{InnerType}
use Rattle.bdb_law_levels.specs.declared.inner_type.InnerType.TheVariants.{Keyed, Numbered}
use Rattle.bdb_mkleaves.specs.LeafEntries.{Entry, IsLeafIn, contents_of, type_number}
use Rattle.bdb_mkleaves.specs.Units.{EntryUnit, KeyedUnit, TreeUnit, key_of, list_of_units}
use Rattle.bdb_mkleaves.specs.Placed.{HasLength, IsAllowed, IsOneValue, LeafUnits, StandsPlaced, entries_of, pages_of, units_in}
use Rattle.bdb_mkleaves.specs.declared.leaf_type.LeafType.{LeafType}
use Rattle.bdb_mkleaves.specs.declared.leaf_type.LeafType.TheVariants.{Pairs, Records, SortedData}

-- the type of the internal pages over leaves of a type
abbrev pub inner_of : LeafType → InnerType
inner_of Pairs = Keyed
inner_of Records = Numbered
inner_of SortedData = Keyed

abbrev pub entries_on : LeafUnits → List Entry
entries_on leaf = flat_map entries_of leaf.units

-- a leaf with what its items hold
abbrev pub filled_leaf : LeafType → LeafUnits → FilledLeaf
filled_leaf type leaf = record { page = leaf.page; contents = contents_of type (entries_on leaf) }

-- the pages that they name
abbrev pub held_by_leaves : LeafType → List LeafUnits → List ℕ
held_by_leaves type placed = flat_map pages_held (map (filled_leaf type) placed)

-- Leaves in their order, the first of them after a page: each has the entries of its units between its neighbours, 0 after the last; and
-- the units stand.
abbrev pub AreLaid : LeafType → File → ℕ → List LeafUnits → Type 0
AreLaid type g before [] = Unit {0}
AreLaid type g before (leaf ∷ placed) =
    IsLeafIn type g leaf.page before (first_or_zero (pages_of placed)) (entries_on leaf) × All (StandsPlaced type g) leaf.units
    × AreLaid type g leaf.page placed

-- the key of a leaf is what its first entry holds, one value; one without entries has any bytes, and in a tree without keys nothing is asked
abbrev pub IsKeyOf : InnerType → List Entry → Content → Type 0
IsKeyOf Keyed [] key = (bytes : List ℕ) × (key ≡ Inline bytes)
IsKeyOf Keyed (entry ∷ entries) key = (key ≡ entry.item.content) × IsOneValue key
IsKeyOf Numbered entries key = Unit {0}

-- a leaf as the levels over it know it
pub record IsNodeOf (type : LeafType) (leaf : LeafUnits) (node : Node) : Type 0 where
  pub page : node.page ≡ leaf.page
  pub leaves : node.leaves ≡ leaf.page ∷ []
  pub key : IsKeyOf (inner_of type) (entries_on leaf) node.key

abbrev pub HasUnits : LeafUnits → Type 0
HasUnits leaf = 0 < length leaf.units

-- the pages of a tree but those that its leaves name
abbrev pub tree_pages : List LeafUnits → List (List Node) → List ℕ
tree_pages placed above = pages_of placed ++ level_pages above

-- Leaves, what they name, and levels over them up to the root.
pub record IsTreeLaid (type : LeafType) (g : File) (rest : ℕ → Bool) (placed : List LeafUnits) (nodes : List Node) (above : List (List Node))
    (root : Node) : Type 0 where
  pub no_queue : g.kind ≡ Queue → ⊥
  pub leaves : AreLaid type g 0 placed
  -- the pages of the tree are none of the rest, and none stands twice
  pub inside : (p : ℕ) → Contains (tree_pages placed above) p → (1 ≤ p) × (p ≤ g.last) × (rest p ≡ false)
  pub apart : (p : ℕ) → length (filter (λ other. other == p) (tree_pages placed above)) ≤ 1
  -- what the leaves hold fits; the pages that they name are in order, and enter the rest
  pub fit : All (λ leaf. All (ContentFits g) (contents_of type (entries_on leaf))) placed
  pub held : Ascend 0 (held_by_leaves type placed)
  pub branch : IsBranch g rest (held_by_leaves type placed)
  pub nodes_are : AllZip (IsNodeOf type) placed nodes
  -- each leaf has a unit, or is the root
  pub some : All HasUnits placed ⊎ (above ≡ [])
  -- over leaves the root says, where other pages have the one before them, how many pairs or entries the items over these count
  pub summed : 0 < length above → (header_in (page_at g root.page)).previous ≡ sum_by (λ (node : Node). node.count) nodes
  pub tower : IsTower (inner_of type) g 1 nodes above root

-- all pages of a tree
abbrev pub is_laid : (ℕ → Bool) → List LeafUnits → List (List Node) → ℕ → Bool
is_laid rest placed above p = (rest p || is_of (pages_of placed) p) || is_of (level_pages above) p

-- the value of a record or of a datum of a set, where it's live
abbrev pub live_value : TreeUnit → List (List ℕ)
live_value (KeyedUnit key values) = []
live_value (EntryUnit value deleted) = if deleted then [] else value ∷ []

-- an item of a leaf is marked deleted
abbrev pub has_deleted : Page → Bool
has_deleted (Leaf page) = list_any (λ (item : Item). item.deleted) page.items
has_deleted (RecnoLeaf page) = list_any (λ (item : Item). item.deleted) page.items
has_deleted (DupLeaf page) = list_any (λ (item : Item). item.deleted) page.items
has_deleted page = false

-- a unit isn't: only a record may be
abbrev pub IsLiveUnit : TreeUnit → Type 0
IsLiveUnit (KeyedUnit key values) = Unit {0}
IsLiveUnit (EntryUnit value deleted) = deleted ≡ false

-- the data of a set are sorted
abbrev pub has_sorted_data : LeafType → Bool
has_sorted_data Pairs = false
has_sorted_data Records = false
has_sorted_data SortedData = true

-- how many pairs or entries a leaf has; a node counts those of its leaf
abbrev pub number_on : LeafType → LeafUnits → ℕ
number_on Pairs leaf = length (entries_on leaf) / 2
number_on Records leaf = length (entries_on leaf)
number_on SortedData leaf = length (entries_on leaf)

abbrev pub Counts : LeafType → LeafUnits → Node → Type 0
Counts type leaf node = node.count ≡ number_on type leaf

-- what the metadata of a btree asks of its tree: keys that ascend, units that are allowed, and counts where it counts
pub record SuitsBtree (g : File) (meta : BtreeMeta) (placed : List LeafUnits) (nodes : List Node) : Type 0 where
  pub kind : is_recno meta ≡ false
  pub keys : ascends (map key_of (units_in placed)) ≡ true
  pub allowed : All (λ (leaf : LeafUnits). All (IsAllowed g (has_duplicates (BtreeFields meta)) (is_sorted (BtreeFields meta))) leaf.units) placed
  pub counts : counts_records meta ≡ true → AllZip (Counts Pairs) placed nodes

-- and that of a recno: counts, and the length of all records where they have one
pub record SuitsRecno (meta : BtreeMeta) (placed : List LeafUnits) (nodes : List Node) : Type 0 where
  pub kind : is_recno meta ≡ true
  pub lengths : is_fixed meta ≡ true → All (λ (leaf : LeafUnits). All (HasLength meta.re_len) leaf.units) placed
  pub counts : AllZip (Counts Records) placed nodes

abbrev pub Suits : LeafType → File → BtreeMeta → List LeafUnits → List Node → Type 0
Suits Pairs g meta placed nodes = SuitsBtree g meta placed nodes
Suits Records g meta placed nodes = SuitsRecno meta placed nodes
Suits SortedData g meta placed nodes = ⊥

-- The laws.

-- they are a branch that is entered by the root
abbrev pub LaidTreesAreBranches : Type 0
LaidTreesAreBranches =
    (type : LeafType) (g : File) (rest : ℕ → Bool) (placed : List LeafUnits) (nodes : List Node) (above : List (List Node)) (root : Node)
    → IsTreeLaid type g rest placed nodes above root → IsBranch g (is_laid rest placed above) (root.page ∷ [])

-- the leaves of the root are those with the units, in their order
abbrev pub LaidTreesHaveLeaves : Type 0
LaidTreesHaveLeaves =
    (type : LeafType) (g : File) (rest : ℕ → Bool) (placed : List LeafUnits) (nodes : List Node) (above : List (List Node)) (root : Node)
    → IsTreeLaid type g rest placed nodes above root → leaves g root.page ≡ pages_of placed

-- and have their kinds and links, of metadata and of sets
abbrev pub LaidTreesAreLinked : Type 0
LaidTreesAreLinked =
    (type : LeafType) (g : File) (rest : ℕ → Bool) (placed : List LeafUnits) (nodes : List Node) (above : List (List Node)) (root : Node)
    (sort : Sort)
    → IsTreeLaid type g rest placed nodes above root → has_type (leaf_types sort) (Some (type_number type)) ≡ true
    → has_wrong_place g sort root.page ≡ false

-- no item of their leaves is marked deleted, where no unit is: no key, no datum of a key, and no record or datum of a set
abbrev pub LaidTreesAreLive : Type 0
LaidTreesAreLive =
    (type : LeafType) (g : File) (rest : ℕ → Bool) (placed : List LeafUnits) (nodes : List Node) (above : List (List Node)) (root : Node)
    → IsTreeLaid type g rest placed nodes above root → All IsLiveUnit (units_in placed)
    → All (λ (leaf : LeafUnits). has_deleted (page_at g leaf.page) ≡ false) placed

-- a set holds the values of its live units, in their order; its root has the type of sorted data or of unsorted ones, and it
-- fits where a datum names it
abbrev pub LaidSetsHoldData : Type 0
LaidSetsHoldData =
    (type : LeafType) (g : File) (rest : ℕ → Bool) (placed : List LeafUnits) (nodes : List Node) (above : List (List Node)) (root : Node)
    → IsTreeLaid type g rest placed nodes above root → (type ≡ Pairs → ⊥)
    → (data_of g (Tree root.page) ≡ flat_map live_value (units_in placed)) × (is_wrong_set g (has_sorted_data type) (Tree root.page) ≡ false)
    × SetFits g root.page

-- a tree that suits metadata is the part of the database whose root it is
abbrev pub LaidTreesAreParts : Type 0
LaidTreesAreParts =
    (type : LeafType) (g : File) (rest : ℕ → Bool) (placed : List LeafUnits) (nodes : List Node) (above : List (List Node)) (root : Node)
    (meta : BtreeMeta) → IsTreeLaid type g rest placed nodes above root → meta.root ≡ root.page → Suits type g meta placed nodes
    → IsPart g (record {
      pages = is_laid rest placed above;
      fields = BtreeFields meta;
      list = list_of_units (btree_kind meta) (units_in placed);
    })
