-- Trees whose root stands on their first page. Source: docs/FORMAT.md, "Built trees".
use Rattle.std.specs.Prelude.{◌≡◌, ◌⊎◌, ℕ, ◌+◌, ◌-◌, ◌<◌, ◌≤◌, Bool, true, false, List, [], ◌∷◌, ◌++◌, length, map, None}
use Rattle.std.specs.List.{All, AllZip, Contains, flat_map, range_with_len, sum_by}
use Rattle.bdb_places.specs.of_format.Terms.{File, byte_at, four_at, page_code}
use Rattle.bdb_pack.specs.of_law_grove.Growing.{IsCounted, IsLater}
use Rattle.bdb_pack.specs.of_law_grove.Part.{between}
use Rattle.bdb_law_levels.specs.declared.inner_type.InnerType.{InnerType}
use Rattle.bdb_law_levels.specs.Nodes.{IsTower, Node}
use Rattle.bdb_law_levels.specs.Roots.{is_of, pages_of}
use Rattle.bdb_pack.specs.Built.{AreWhole, Built, bytes_of, file_so_far}
use Rattle.bdb_mkleaves.specs.Filled.{AreFilled, AreSpreadOver, all_contents, rest_of}
use Rattle.bdb_mkleaves.specs.Inner.{HasLiveKeys, HoldsChildrenOn, child_cost, first_cost, inner_number}
use Rattle.bdb_mkleaves.specs.Laid.{HasUnits, IsTreeLaid, IsNodeOf, inner_of, is_laid}
use Rattle.bdb_mkleaves.specs.Layout.{HasTreeOn, IsTreeOn}
use Rattle.bdb_mkleaves.specs.LeafEntries.{with_field}
use Rattle.bdb_mkleaves.specs.Leaves.{KeepsBefore}
use Rattle.bdb_mkleaves.specs.Levels.{heads_of}
use Rattle.bdb_mkleaves.specs.Moved.{IsFirstMoved, first_leaf, numbers_of}
use Rattle.bdb_mkleaves.specs.Placed.{LeafUnits, Placed, unit_of}
use Rattle.bdb_mkleaves.specs.Rooted.{CountsLeaves, IsOneLeaf, placed_on}
use Rattle.bdb_mkleaves.specs.Spread.{AreSpreadLevels, leaves_and_levels, named_heads, pages_over}
use Rattle.bdb_mkleaves.specs.Tower.{CountsNamed, levels_to}
use Rattle.bdb_mkleaves.specs.declared.leaf_type.LeafType.{LeafType}
use Rattle.bdb_mkleaves.specs.declared.leaves.Leaves.{Leaves}

-- The last page is placed on another, with the number of that and a sum where other pages have the one before them, and dropped from the end; no
-- other page changes. The nodes that it holds as an internal page it holds there.
pub record IsRootPlaced (first root sum : ℕ) (old new : Built) : Type 0 where
  pub size : new.size ≡ old.size
  pub order : new.order ≡ old.order
  pub whole : AreWhole new
  pub count : length new.pages ≡ root
  pub bytes : bytes_of new first ≡ with_field old.order (with_field old.order (bytes_of old root) 8 first) 12 sum
  pub summed : four_at new.order (bytes_of new first) 12 ≡ sum
  pub same : (p : ℕ) → p < root → (p ≡ first → ⊥) → bytes_of new p ≡ bytes_of old p
  pub holds : (inner : InnerType) (level : ℕ) (nodes : List Node) → HoldsChildrenOn inner old root level nodes
      → HoldsChildrenOn inner new first level nodes

-- Levels over these nodes stand behind the pages that stood, but for the last, the root: that stands on the page `first`, which stood. The other
-- pages that stood are as before, but that heads of chains of keys may count more.
pub record HasTowerOn (inner : InnerType) (old new : Built) (nodes : List Node) (first : ℕ) : Type 0 where
  pub levels : List (List Node)
  pub top : Node
  pub top_is : top.page ≡ first
  pub size : new.size ≡ old.size
  pub order : new.order ≡ old.order
  pub whole : AreWhole new
  pub grows : length old.pages ≤ length new.pages
  pub numbers : pages_of levels ≡ range_with_len (length old.pages) (length new.pages - length old.pages)
  pub tower : (g : File) (pages : ℕ → Bool) → ((p : ℕ) → length old.pages ≤ p → p < length new.pages → pages p ≡ true) → pages first ≡ true
      → ((h : ℕ) → Contains (flat_map (heads_of inner) nodes) h → pages h ≡ true) → IsLater pages (file_so_far new) g
      → IsTower inner g 1 nodes (levels_to levels top) top
  pub spread : AreSpreadLevels inner (old.size - 26) nodes (levels_to levels top)
  pub counts : CountsNamed (λ (p : ℕ). (p < length old.pages) × (p ≡ first → ⊥)) old new
      (named_heads inner (old.size - 26) nodes (levels_to levels top))
  pub later : (pages : ℕ → Bool) → ((p : ℕ) → pages p ≡ true → (p < length old.pages) × (p ≡ first → ⊥))
      → IsLater pages (file_so_far old) (file_so_far new)
  pub formed : (p : ℕ) → length old.pages ≤ p → p < length new.pages → page_code new.order p (bytes_of new p) ≡ None
  pub root_formed : page_code new.order first (bytes_of new first) ≡ None
  pub root_type : byte_at (bytes_of new first) 25 ≡ inner_number inner
  pub live : (p : ℕ) → length old.pages ≤ p → p < length new.pages → HasLiveKeys new.order (bytes_of new p)
  pub root_live : HasLiveKeys new.order (bytes_of new first)
  -- the root says how many pairs or entries are counted below it
  pub summed : four_at new.order (bytes_of new first) 12 ≡ sum_by (λ (node : Node). node.count) nodes
  pub form_kept : (p : ℕ) → p < length old.pages → (p ≡ first → ⊥)
      → page_code new.order p (bytes_of new p) ≡ page_code old.order p (bytes_of old p)
  pub kept : (p : ℕ) → p < length old.pages → (p ≡ first → ⊥) → (Contains (flat_map (heads_of inner) nodes) p → ⊥)
      → bytes_of new p ≡ bytes_of old p
  pub count : length new.pages + 1
      ≡ length old.pages + pages_over (length nodes) (old.size - 26) (first_cost inner) (map (child_cost inner) nodes)

-- The first of several leaves is moved behind the pages that stood, and levels are laid over the leaves, with the root in its place.
pub record HasRootOn (leaves : Leaves) (old new : Built) (counted : Bool) (closed : List (List Placed)) (units : List Placed)
    (root : ℕ) : Type 0 where
  pub next : Leaves
  pub between : Built
  pub several : 1 ≤ length leaves.closed.items
  pub moved : IsFirstMoved leaves next old between
  pub root_is : root ≡ first_leaf leaves
  pub nodes : List Node
  pub nodes_are : AllZip (IsNodeOf leaves.leaf_type) (placed_on next closed units) nodes
  pub counts : CountsLeaves counted leaves.leaf_type (placed_on next closed units) nodes
  pub some : All HasUnits (placed_on next closed units)
  pub tower : HasTowerOn (inner_of leaves.leaf_type) between new nodes (first_leaf leaves)

-- One leaf is the root itself, where it stands; over several the root stands on the page of the first.
abbrev pub HasFirstRoot : Leaves → Built → Built → Bool → List (List Placed) → List Placed → ℕ → Type 0
HasFirstRoot leaves old new counted closed units root =
    (root ≡ first_leaf leaves) × (IsOneLeaf leaves old new counted closed units ⊎ HasRootOn leaves old new counted closed units root)

-- In a file leaves with these units stand in this order, and levels over them up to the root. The tree has all pages from one number up to another.
pub record HasLaidTree (type : LeafType) (g : File) (rest : ℕ → Bool) (first beyond : ℕ) (counted : Bool) (groups : List (List Placed))
    (root : ℕ) : Type 0 where
  pub placed : List LeafUnits
  pub nodes : List Node
  pub above : List (List Node)
  pub top : Node
  pub laid : IsTreeLaid type g rest placed nodes above top
  pub top_is : top.page ≡ root
  pub units_are : map (λ (leaf : LeafUnits). leaf.units) placed ≡ groups
  pub counts : CountsLeaves counted type placed nodes
  pub pages : (p : ℕ) → is_laid rest placed above p ≡ between first beyond p

-- A finished tree is laid in each later file, whether it is one leaf or several; it has all pages since its leaves were begun.
abbrev pub FirstRootsAreLaid : Type 0
FirstRootsAreLaid =
    (leaves : Leaves) (old new : Built) (counted : Bool) (before : ℕ) (closed : List (List Placed)) (units : List Placed) (root : ℕ)
    → AreFilled leaves old before closed units → HasFirstRoot leaves old new counted closed units root
    → (g : File) → IsCounted g → IsLater (between before (length new.pages)) (file_so_far new) g
    → HasLaidTree leaves.leaf_type g (rest_of before leaves old) before (length new.pages) counted (closed ++ (units ∷ [])) root

-- Where its units were spread by what they take, it is laid out, and the heads of its chains count their references; these units are on its leaves.
abbrev pub FinishedTreesAreLaidOut : Type 0
FinishedTreesAreLaidOut =
    (leaves : Leaves) (old new : Built) (counted : Bool) (before : ℕ) (closed : List (List Placed)) (units : List Placed) (root : ℕ)
    → AreFilled leaves old before closed units → AreSpreadOver old.size closed units → HasFirstRoot leaves old new counted closed units root
    → (on : IsTreeOn leaves.leaf_type new (between before (length new.pages)) counted (map unit_of (flat_map (λ leaf. leaf) closed ++ units)) root)
    × (map (λ (leaf : LeafUnits). leaf.units) on.tree.placed ≡ closed ++ (units ∷ []))

-- The trees of its units' data stand as they did.
abbrev pub FinishedTreesKeepTrees : Type 0
FinishedTreesKeepTrees =
    (leaves : Leaves) (old new : Built) (counted : Bool) (before : ℕ) (closed : List (List Placed)) (units : List Placed) (root : ℕ)
    → AreFilled leaves old before closed units → HasFirstRoot leaves old new counted closed units root
    → All (HasTreeOn new (between before (length new.pages)) (all_contents leaves.leaf_type closed units)) (flat_map (λ leaf. leaf) closed ++ units)

-- None of these pages has a row of form.
abbrev pub FinishedTreesAreFormed : Type 0
FinishedTreesAreFormed =
    (leaves : Leaves) (old new : Built) (counted : Bool) (before : ℕ) (closed : List (List Placed)) (units : List Placed) (root : ℕ)
    → AreFilled leaves old before closed units → HasFirstRoot leaves old new counted closed units root
    → (p : ℕ) → before ≤ p → p < length new.pages → page_code new.order p (bytes_of new p) ≡ None

-- The pages before the leaves were begun stay.
abbrev pub FinishedTreesKeepOlderPages : Type 0
FinishedTreesKeepOlderPages =
    (leaves : Leaves) (old new : Built) (counted : Bool) (before : ℕ) (closed : List (List Placed)) (units : List Placed) (root : ℕ)
    → AreFilled leaves old before closed units → HasFirstRoot leaves old new counted closed units root → KeepsBefore before old new

-- Its leaves and the levels over them are as many pages as its units say, where these were spread by what they take.
abbrev pub FinishedTreesAreCounted : Type 0
FinishedTreesAreCounted =
    (leaves : Leaves) (old new : Built) (counted : Bool) (before : ℕ) (closed : List (List Placed)) (units : List Placed) (root : ℕ)
    → AreFilled leaves old before closed units → AreSpreadOver old.size closed units → HasFirstRoot leaves old new counted closed units root
    → length new.pages + (length closed + 1)
    ≡ length old.pages + leaves_and_levels leaves.leaf_type old.size (map unit_of (flat_map (λ leaf. leaf) closed ++ units))

-- A tree of several leaves is laid, in each later file; it has all pages since the leaves were begun, and what its leaves name stays where it stood.
abbrev pub FinishedTreesAreLaid : Type 0
FinishedTreesAreLaid =
    (leaves : Leaves) (old new : Built) (counted : Bool) (before : ℕ) (closed : List (List Placed)) (units : List Placed) (root : ℕ)
    → AreFilled leaves old before closed units → (on : HasRootOn leaves old new counted closed units root)
    → (g : File) → IsCounted g → IsLater (between before (length new.pages)) (file_so_far new) g
    → IsTreeLaid leaves.leaf_type g (rest_of before leaves old) (placed_on on.next closed units) on.nodes
    (levels_to on.tower.levels on.tower.top) on.tower.top
    × ((p : ℕ)
    → is_laid (rest_of before leaves old) (placed_on on.next closed units) (levels_to on.tower.levels on.tower.top) p
    ≡ between before (length new.pages) p)

-- The pages that stood and are no leaves are as before, but that heads of chains of keys may count more; they keep their form.
abbrev pub FinishedTreesKeepPages : Type 0
FinishedTreesKeepPages =
    (leaves : Leaves) (old new : Built) (counted : Bool) (closed : List (List Placed)) (units : List Placed) (root : ℕ)
    → HasRootOn leaves old new counted closed units root
    → ((pages : ℕ → Bool) → ((p : ℕ) → pages p ≡ true → (p < length old.pages) × (is_of (numbers_of leaves) p ≡ false))
    → IsLater pages (file_so_far old) (file_so_far new))
    × ((p : ℕ) → p < length old.pages → is_of (numbers_of leaves) p ≡ false
    → page_code new.order p (bytes_of new p) ≡ page_code old.order p (bytes_of old p))
