-- How the units of a tree are laid out on its pages, and that a tree stands so. Source: docs/FORMAT.md, "Built trees" and "Stored values".
use Rattle.std.specs.Prelude.{◌≡◌, ℕ, ◌<◌, Bool, true, false, List, length, map}
use Rattle.std.specs.List.{All, Contains, flat_map}
use Rattle.bdb_places.specs.of_format.Terms.{Content, File, Tree, entries_of as count_on, file_of, head_of, is_wrong_set, page_bytes}
use Rattle.bdb_pack.specs.of_law_grove.Growing.{IsCounted, IsLater}
use Rattle.bdb_pack.specs.of_law_grove.Part.{between}
use Rattle.bdb_law_levels.specs.Nodes.{Node}
use Rattle.bdb_law_levels.specs.Roots.{key_heads, pages_of as level_pages}
use Rattle.bdb_pack.specs.Built.{Built, bytes_of, file_so_far}
use Rattle.bdb_mkleaves.specs.Inner.{HasLiveKeys}
use Rattle.bdb_mkleaves.specs.Laid.{IsTreeLaid, entries_on, inner_of, is_laid}
use Rattle.bdb_mkleaves.specs.LeafEntries.{contents_of}
use Rattle.bdb_mkleaves.specs.Placed.{IsPlacedBySize, LeafUnits, Placed, PlacedEntry, PlacedPairs, PlacedTree, ValueItem, unit_of}
use Rattle.bdb_mkleaves.specs.Rooted.{CountsLeaves}
use Rattle.bdb_mkleaves.specs.Spread.{AreSpreadLevels, named_heads, set_type, spread_units}
use Rattle.bdb_mkleaves.specs.Units.{EntryUnit, TreeUnit, page_room}
use Rattle.bdb_mkleaves.specs.declared.leaf_type.LeafType.{LeafType}

-- a tree: its leaves with their units, these as the levels know them, the levels, and the root
pub record TreeParts : Type 0 where
  pub placed : List LeafUnits
  pub nodes : List Node
  pub above : List (List Node)
  pub top : Node

-- Units are laid out: they are spread over the leaves by what they take, each value stands by its size, a leaf's number of pairs or entries is told
-- where that is counted, and the levels are spread over the leaves up to the root.
pub record IsLaidOut (type : LeafType) (size : ℕ) (counted : Bool) (units : List TreeUnit) (tree : TreeParts) : Type 0 where
  pub spread : map (λ (leaf : LeafUnits). map unit_of leaf.units) tree.placed ≡ spread_units size units
  pub sizes : All (IsPlacedBySize size) (flat_map (λ (leaf : LeafUnits). leaf.units) tree.placed)
  pub counts : CountsLeaves counted type tree.placed tree.nodes
  pub levels : AreSpreadLevels (inner_of type) (page_room size) tree.nodes tree.above

-- the heads of the chains of what leaves hold
abbrev pub leaf_heads : LeafType → List LeafUnits → List ℕ
leaf_heads type placed = flat_map key_heads (flat_map (λ (leaf : LeafUnits). contents_of type (entries_on leaf)) placed)

-- those that items of its levels name too
abbrev pub heads_named : LeafType → ℕ → TreeParts → List ℕ
heads_named type size tree = named_heads (inner_of type) (page_room size) tree.nodes tree.above

-- The head of a chain is among pages. It counts two references where it is one of those that are named too, and else one.
pub record HeadCounts (built : Built) (pages : ℕ → Bool) (named : List ℕ) (h : ℕ) : Type 0 where
  pub there : pages h ≡ true
  pub low : h < length built.pages
  pub one : (Contains named h → ⊥) → count_on built.order (bytes_of built h) ≡ 1
  pub two : Contains named h → count_on built.order (bytes_of built h) ≡ 2

-- A page of a level is among pages, and no key of it is marked deleted.
pub record IsLevelPage (built : Built) (pages : ℕ → Bool) (p : ℕ) : Type 0 where
  pub there : pages p ≡ true
  pub low : p < length built.pages
  pub live : HasLiveKeys built.order (bytes_of built p)

-- A tree of these units is laid out, and stands so in each later file that keeps these pages. It has all pages from one number up to another, and the
-- heads of its chains count their references.
pub record IsTreeOn (type : LeafType) (built : Built) (pages : ℕ → Bool) (counted : Bool) (units : List TreeUnit) (root : ℕ) : Type 0 where
  pub tree : TreeParts
  pub root_is : tree.top.page ≡ root
  pub out : IsLaidOut type built.size counted units tree
  pub rest : ℕ → Bool
  pub first : ℕ
  pub beyond : ℕ
  pub all : (p : ℕ) → is_laid rest tree.placed tree.above p ≡ between first beyond p
  pub stands : (g : File) → IsCounted g → IsLater pages (file_so_far built) g → IsTreeLaid type g rest tree.placed tree.nodes tree.above tree.top
  pub heads : (h : ℕ) → Contains (leaf_heads type tree.placed) h → HeadCounts built pages (heads_named type built.size tree) h
  pub levels : (p : ℕ) → Contains (level_pages tree.above) p → IsLevelPage built pages p

-- a datum of a set, or a record
abbrev pub live_entry : List ℕ → TreeUnit
live_entry value = EntryUnit value false

-- where the data of a unit have a tree, it stands, sorted or not; its chains and its levels are no chains that these contents name
abbrev pub HasTreeOn : Built → (ℕ → Bool) → List Content → Placed → Type 0
HasTreeOn built pages contents (PlacedEntry entry) = Unit {0}
HasTreeOn built pages contents (PlacedPairs key first more) = Unit {0}
HasTreeOn built pages contents (PlacedTree key root values) =
    (sorted : Bool) × (on : IsTreeOn (set_type sorted) built pages true (map live_entry values) root)
    × ((h : ℕ) → Contains (leaf_heads (set_type sorted) on.tree.placed) h → Contains (flat_map key_heads contents) h → ⊥)
    × ((p : ℕ) → Contains (level_pages on.tree.above) p → Contains (flat_map key_heads contents) p → ⊥)

-- what the leaves of a tree hold, and their units
abbrev pub contents_below : LeafType → TreeParts → List Content
contents_below type tree = flat_map (λ (leaf : LeafUnits). contents_of type (entries_on leaf)) tree.placed

abbrev pub placed_below : TreeParts → List Placed
placed_below tree = flat_map (λ (leaf : LeafUnits). leaf.units) tree.placed

-- the trees of its units' data stand too
abbrev pub HaveTreesOn : LeafType → Built → (ℕ → Bool) → TreeParts → Type 0
HaveTreesOn type built pages tree = All (HasTreeOn built pages (contents_below type tree)) (placed_below tree)

-- An image has these of the pages that were built, byte for byte, and perhaps others.
pub record HasPagesOf (built : Built) (pages : ℕ → Bool) (image : List ℕ) : Type 0 where
  pub counted : IsCounted (file_of image)
  pub later : IsLater pages (file_so_far built) (file_of image)
  pub order : (head_of image).order ≡ built.order
  pub same : (p : ℕ) → pages p ≡ true → p < length built.pages → page_bytes (head_of image) image p ≡ bytes_of built p

-- In an image a tree of these units is laid out, on all pages from one number up to another, and no key of its levels is marked deleted.
pub record IsTreeIn (type : LeafType) (image : List ℕ) (size : ℕ) (counted : Bool) (units : List TreeUnit) (root : ℕ) : Type 0 where
  pub tree : TreeParts
  pub root_is : tree.top.page ≡ root
  pub out : IsLaidOut type size counted units tree
  pub rest : ℕ → Bool
  pub first : ℕ
  pub beyond : ℕ
  pub all : (p : ℕ) → is_laid rest tree.placed tree.above p ≡ between first beyond p
  pub laid : IsTreeLaid type (file_of image) rest tree.placed tree.nodes tree.above tree.top
  pub live : (p : ℕ) → Contains (level_pages tree.above) p → HasLiveKeys (head_of image).order (page_bytes (head_of image) image p)

-- where the data of a unit have a tree, it is laid out too, sorted or not
abbrev pub HasTreeIn : List ℕ → ℕ → Placed → Type 0
HasTreeIn image size (PlacedEntry entry) = Unit {0}
HasTreeIn image size (PlacedPairs key first more) = Unit {0}
HasTreeIn image size (PlacedTree key root values) = (sorted : Bool) × IsTreeIn (set_type sorted) image size true (map live_entry values) root

-- a tree with the trees of its units' data
pub record AreTreesIn (type : LeafType) (image : List ℕ) (size : ℕ) (counted : Bool) (units : List TreeUnit) (root : ℕ) : Type 0 where
  pub top : IsTreeIn type image size counted units root
  pub trees : All (HasTreeIn image size) (placed_below top.tree)

-- The laws.

-- a tree that was built, and the trees of its data, are laid out so in each image that has its pages
abbrev pub TreesAreIn : Type 0
TreesAreIn =
    (type : LeafType) (built : Built) (pages : ℕ → Bool) (counted : Bool) (units : List TreeUnit) (root : ℕ)
    → (on : IsTreeOn type built pages counted units root) → HaveTreesOn type built pages on.tree
    → (image : List ℕ) → HasPagesOf built pages image → AreTreesIn type image built.size counted units root

-- its data are sorted where its root has the type of a sorted set, and else not
abbrev pub TreesAreSorted : Type 0
TreesAreSorted =
    (built : Built) (pages : ℕ → Bool) (contents : List Content) (key : ValueItem) (root : ℕ) (values : List (List ℕ)) (sorted : Bool)
    → (has : HasTreeOn built pages contents (PlacedTree key root values))
    → (g : File) → IsCounted g → IsLater pages (file_so_far built) g → is_wrong_set g sorted (Tree root) ≡ false → has.0 ≡ sorted
