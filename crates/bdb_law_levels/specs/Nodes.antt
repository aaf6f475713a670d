-- Pages of a tree, level by level, in one file. Source: docs/FORMAT.md, "Internal items" and "Built trees".
use Rattle.std.specs.Prelude.{◌≡◌, ℕ, ◌+◌, ◌<◌, ◌≤◌, List, [], ◌∷◌, ◌++◌, length, map, get_or}
use Rattle.std.specs.List.{All, flat_map, sum_by}
use Rattle.bdb_law_grove.specs.of_format.declared.pages.RecnoItem.{RecnoItem}
use Rattle.bdb_law_grove.specs.of_format.Terms.{Chain, Content, File, Inline, Internal, InternalItem, Listed, RecnoInternal, Set, Tree, Unknown, header_in}
use Rattle.bdb_law_grove.specs.of_format.Terms.{leaves_in, page_at}
use Rattle.bdb_law_levels.specs.declared.inner_type.InnerType.{InnerType}
use Rattle.bdb_law_levels.specs.declared.inner_type.InnerType.TheVariants.{Keyed, Numbered}

-- a page of a level, and what is below it: the number that its item tells, its leaves, and what the first item of the first of them holds
pub record Node : Type 0 where
  pub page : ℕ
  pub count : ℕ
  pub leaves : List ℕ
  pub key : Content

abbrev pub no_node : Node
no_node = record { page = 0; count = 0; leaves = []; key = Unknown }

-- the items of an internal page over some pages: the first has an empty key, each other the first key below its child
abbrev pub keyed_item : Content → Node → InternalItem
keyed_item key node = record { child = node.page; count = node.count; key = key }

abbrev pub keyed_items : List Node → List InternalItem
keyed_items [] = []
keyed_items (node ∷ nodes) = keyed_item (Inline []) node ∷ map (λ (other : Node). keyed_item other.key other) nodes

abbrev pub numbered_item : Node → RecnoItem
numbered_item node = record { child = node.page; count = node.count }

-- a key in a chain is named once more: the chain counts two references at least
abbrev pub CountsTwo : File → Content → Type 0
CountsTwo g (Inline bytes) = Unit {0}
CountsTwo g (Chain head total) = 2 ≤ (header_in (page_at g head)).entries
CountsTwo g (Set blocks) = ⊥
CountsTwo g (Tree root) = ⊥
CountsTwo g Unknown = ⊥

-- an internal page over some pages has this type and level, and an item for each
abbrev pub HasItems : InnerType → File → ℕ → ℕ → List Node → Type 0
HasItems Keyed g p level [] = ⊥
HasItems Keyed g p level (node ∷ nodes) =
    (page : Listed InternalItem) × (page_at g p ≡ Internal page) × (page.header.level ≡ level) × (page.items ≡ keyed_items (node ∷ nodes))
    × All (λ (other : Node). CountsTwo g other.key) nodes
HasItems Numbered g p level nodes =
    (page : Listed RecnoItem) × (page_at g p ≡ RecnoInternal page) × (page.header.level ≡ level) × (page.items ≡ map numbered_item nodes)

-- a page stands over some pages, one at least, at a level
pub record IsOver (type : InnerType) (g : File) (level : ℕ) (node : Node) (below : List Node) : Type 0 where
  pub items : HasItems type g node.page level below
  pub some : 0 < length below
  pub count : node.count ≡ sum_by (λ (child : Node). child.count) below
  pub leaves : node.leaves ≡ flat_map (λ (child : Node). child.leaves) below
  pub key : node.key ≡ (get_or below 0 no_node).key

-- each page of a level stands over pages of the one below, in their order
abbrev pub AreOver : InnerType → File → ℕ → List Node → List Node → Type 0
AreOver type g level [] below = below ≡ []
AreOver type g level (node ∷ nodes) below =
    (run : List Node) × (rest : List Node) × (below ≡ run ++ rest) × IsOver type g level node run × AreOver type g level nodes rest

-- levels over pages of a level, up to one with one page, the root
abbrev pub IsTower : InnerType → File → ℕ → List Node → List (List Node) → Node → Type 0
IsTower type g level below [] root = below ≡ root ∷ []
IsTower type g level below (nodes ∷ above) root = AreOver type g (level + 1) nodes below × IsTower type g (level + 1) nodes above root

-- a page of this level has these leaves below it
pub record HasLeaves (g : File) (level : ℕ) (node : Node) : Type 0 where
  pub level_is : (header_in (page_at g node.page)).level ≡ level
  pub leaves_are : leaves_in level g node.page ≡ node.leaves

-- then the pages of the next level have the leaves of those below, in their order, and so has the root
abbrev pub TowersHaveLeaves : Type 0
TowersHaveLeaves =
    (type : InnerType) (g : File) (level : ℕ) (below : List Node) (above : List (List Node)) (root : Node) → IsTower type g level below above root
    → All (HasLeaves g level) below
    → All (All (λ (node : Node). (height : ℕ) × HasLeaves g height node)) above
    × ((height : ℕ) × HasLeaves g height root)
    × (root.leaves ≡ flat_map (λ (node : Node). node.leaves) below)
    × (root.count ≡ sum_by (λ (node : Node). node.count) below)
