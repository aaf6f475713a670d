-- A level of internal pages that is laid over the pages of a level, one item for each. Source: docs/FORMAT.md, "Internal items" and "Built trees".
use Rattle.std.specs.Prelude.{◌≡◌, ℕ, ◌+◌, ◌-◌, ◌<◌, ◌≤◌, Bool, true, false, List, [], ◌∷◌, ◌++◌, length, map, get_or, None}
use Rattle.std.specs.List.{Contains, flat_map, range_with_len, sum_by}
use Rattle.bdb_places.specs.of_format.Terms.{Chain, Content, File, Inline, Set, Tree, Unknown, abstract_page, entries_of, page_code}
use Rattle.bdb_pack.specs.of_law_grove.Growing.{IsLater, IsSamePage}
use Rattle.bdb_law_levels.specs.declared.inner_type.InnerType.{InnerType}
use Rattle.bdb_law_levels.specs.declared.inner_type.InnerType.TheVariants.{Keyed, Numbered}
use Rattle.bdb_law_levels.specs.Nodes.{AreOver, Node, no_node}
use Rattle.bdb_law_levels.specs.Roots.{key_heads}
use Rattle.bdb_pack.specs.Built.{AreWhole, Built, bytes_of, file_so_far}
use Rattle.bdb_pack.specs.declared.values.Stored.{Stored}
use Rattle.bdb_pack.specs.declared.values.Stored.TheVariants.{Inline as OnPage, Chain as InChain}
use Rattle.bdb_mkleaves.specs.Inner.{CountsFew, HasLiveKeys, HoldsChildrenOn, child_cost, nodes_cost, raised}
use Rattle.bdb_mkleaves.specs.LeafEntries.{Entry, HoldsEntriesOn, room_of}
use Rattle.bdb_mkleaves.specs.declared.leaf_type.LeafType.{LeafType}
use Rattle.bdb_mkleaves.specs.declared.levels.Child.{Child}

abbrev pub no_child : Child
no_child = record { page = 0; count = 0; leaf = 0 }

-- Keys.

-- where a value stands, with the bytes of one that stands on its page
abbrev pub stored_key : Stored → List ℕ → Content
stored_key OnPage bytes = Inline bytes
stored_key (InChain head total) bytes = Chain head total

abbrev pub stored_heads : Stored → List ℕ
stored_heads OnPage = []
stored_heads (InChain head total) = head ∷ []

-- a key stands in its item, or in a chain that counts few references
abbrev pub KeyStandsOn : Built → Content → Type 0
KeyStandsOn built (Inline bytes) = Unit {0}
KeyStandsOn built (Chain head total) = (head < length built.pages) × CountsFew built.order (bytes_of built head)
KeyStandsOn built (Set blocks) = ⊥
KeyStandsOn built (Tree root) = ⊥
KeyStandsOn built Unknown = ⊥

-- a leaf whose first item has this key
pub record BeginsWithKey (built : Built) (leaf : ℕ) (key : Content) : Type 0 where
  pub type : LeafType
  pub previous : ℕ
  pub next : ℕ
  pub first : Entry
  pub entries : List Entry
  pub there : leaf < length built.pages
  pub holds : HoldsEntriesOn type built leaf previous next (first ∷ entries)
  pub key_is : first.item.content ≡ key
  pub stands : KeyStandsOn built key

-- in a tree with keys a page has the first key of its first leaf
abbrev pub HasKey : InnerType → Built → ℕ → Content → Type 0
HasKey Keyed built leaf key = BeginsWithKey built leaf key
HasKey Numbered built leaf key = Unit {0}

-- a page of a level, and what an item over it says
pub record IsChild (inner : InnerType) (built : Built) (child : Child) (node : Node) : Type 0 where
  pub page_is : node.page ≡ child.page
  pub count_is : node.count ≡ child.count
  pub key : HasKey inner built child.leaf node.key

abbrev pub AreChildren : InnerType → Built → List Child → List Node → Type 0
AreChildren inner built [] [] = Unit {0}
AreChildren inner built [] (node ∷ nodes) = ⊥
AreChildren inner built (child ∷ children) [] = ⊥
AreChildren inner built (child ∷ children) (node ∷ nodes) = IsChild inner built child node × AreChildren inner built children nodes

-- Chains of keys.

-- pages of which some, heads of chains, count two references
abbrev pub raising : Built → List ℕ → Built
raising built [] = built
raising built (head ∷ heads) = raising (raised built head) heads

-- the head that a node's item names, where it isn't the first of its page
abbrev pub heads_of : InnerType → Node → List ℕ
heads_of Keyed node = key_heads node.key
heads_of Numbered node = []

-- those that the items of a page name
abbrev pub heads_under : InnerType → List Node → List ℕ
heads_under inner [] = []
heads_under inner (node ∷ nodes) = flat_map (heads_of inner) nodes

abbrev pub heads_in : InnerType → List (List Node) → List ℕ
heads_in inner groups = flat_map (heads_under inner) groups

-- Steps.

-- a page has an item more, and the chain of its key counts it
pub record TakesNode (inner : InnerType) (level : ℕ) (old new : Built) (p : ℕ) (nodes : List Node) (node : Node) : Type 0 where
  pub size : new.size ≡ old.size
  pub order : new.order ≡ old.order
  pub whole : AreWhole new
  pub count : length new.pages ≡ length old.pages
  pub same : (q : ℕ) → (q ≡ p → ⊥) → bytes_of new q ≡ bytes_of (raising old (heads_of inner node)) q
  pub holds : HoldsChildrenOn inner new p level (nodes ++ (node ∷ []))

-- a page has no room for a node
abbrev pub LacksRoom : InnerType → Built → ℕ → Node → Type 0
LacksRoom inner built p node = room_of built.order (bytes_of built p) < child_cost inner node

abbrev pub TakesNow : Bool → InnerType → ℕ → Built → Built → ℕ → List Node → Node → Type 0
TakesNow true inner level old new p nodes node = TakesNode inner level old new p nodes node
TakesNow false inner level old new p nodes node = (new ≡ old) × LacksRoom inner old p node

-- what a page with items answers to a child, of whatever node it is
abbrev pub AnswersTo : Bool → InnerType → Built → Built → ℕ → Child → Type 0
AnswersTo took inner old new p child =
    (level : ℕ) (nodes : List Node) (node : Node) → HoldsChildrenOn inner old p level nodes → 0 < length nodes → IsChild inner old child node
    → TakesNow took inner level old new p nodes node

-- an internal page with items can be asked to take a child
pub record CanBeAsked (inner : InnerType) (built : Built) (p leaf : ℕ) : Type 0 where
  pub there : p < length built.pages
  pub level : ℕ
  pub nodes : List Node
  pub holds : HoldsChildrenOn inner built p level nodes
  pub some : 0 < length nodes
  pub key : Content
  pub has : HasKey inner built leaf key

-- a new page behind all others has one item
pub record IsStarted (inner : InnerType) (level : ℕ) (old new : Built) (p : ℕ) (node : Node) : Type 0 where
  pub number : p ≡ length old.pages
  pub size : new.size ≡ old.size
  pub order : new.order ≡ old.order
  pub whole : AreWhole new
  pub count : length new.pages ≡ length old.pages + 1
  pub same : (q : ℕ) → q < length old.pages → bytes_of new q ≡ bytes_of old q
  pub holds : HoldsChildrenOn inner new p level (node ∷ [])

-- it has that of the child, of whatever node it is
abbrev pub Starts : InnerType → ℕ → Built → Built → ℕ → Child → Type 0
Starts inner level old new p child = (node : Node) → node.page ≡ child.page → node.count ≡ child.count → IsStarted inner level old new p node

-- Levels.

-- a page over some of the nodes, one at least, with its number, and what an item over it says
pub record IsLaidPage (inner : InnerType) (level : ℕ) (old new : Built) (p : ℕ) (child : Child) (nodes : List Node) : Type 0 where
  pub page_is : child.page ≡ p
  pub count_is : child.count ≡ sum_by (λ (node : Node). node.count) nodes
  pub some : 0 < length nodes
  pub key : HasKey inner old child.leaf (get_or nodes 0 no_node).key
  pub holds : HoldsChildrenOn inner new p level nodes

-- Behind the pages that stood are the pages of a level over groups of nodes. Each but the first was started where its first node had no room on the
-- page before. Of the pages that stood, those heads of chains that are named by keys count two references, and all others stay.
pub record IsLaidBy (inner : InnerType) (level : ℕ) (old new : Built) (above : List Child) (groups : List (List Node)) : Type 0 where
  pub size : new.size ≡ old.size
  pub order : new.order ≡ old.order
  pub whole : AreWhole new
  pub many : length above ≡ length groups
  pub count : length new.pages ≡ length old.pages + length groups
  pub pages : (k : ℕ) → k < length groups → IsLaidPage inner level old new (length old.pages + k) (get_or above k no_child) (get_or groups k [])
  pub kept : (q : ℕ) → q < length old.pages → bytes_of new q ≡ bytes_of (raising old (heads_in inner groups)) q
  pub heads : (h : ℕ) → Contains (heads_in inner groups) h → (h < length old.pages) × CountsFew old.order (bytes_of old h)
  pub filled : (k : ℕ) → k + 1 < length groups
      → old.size - 26 < nodes_cost inner (get_or groups k []) + child_cost inner (get_or (get_or groups (k + 1) []) 0 no_node)

-- they are over these nodes, in their order
pub record IsLevelLaid (inner : InnerType) (level : ℕ) (old new : Built) (above : List Child) (nodes : List Node) : Type 0 where
  pub groups : List (List Node)
  pub joined_is : flat_map (λ group. group) groups ≡ nodes
  pub laid : IsLaidBy inner level old new above groups

-- a level that is being laid can take a child
pub record CanPush (inner : InnerType) (level : ℕ) (now : Built) (above : List Child) (leaf : ℕ) : Type 0 where
  pub old : Built
  pub nodes : List Node
  pub laid : IsLevelLaid inner level old now above nodes
  pub key : Content
  pub has : HasKey inner old leaf key

-- the last of its pages takes a node, or has no room
abbrev pub LaidNow : Bool → InnerType → ℕ → Built → Built → Built → List Child → List Child → List Node → Node → Type 0
LaidNow true inner level origin old new before above nodes node = IsLevelLaid inner level origin new above (nodes ++ (node ∷ []))
LaidNow false inner level origin old new before above nodes node =
    (new ≡ old) × (above ≡ before) × (0 < length before → LacksRoom inner old (get_or before (length before - 1) no_child).page node)

-- so it answers to a child, of whatever nodes it is the level so far
abbrev pub LastAnswers : Bool → InnerType → ℕ → Built → Built → List Child → List Child → Child → Type 0
LastAnswers took inner level old new before above child =
    (origin : Built) (nodes : List Node) (node : Node) → IsLevelLaid inner level origin old before nodes → IsChild inner origin child node
    → LaidNow took inner level origin old new before above nodes node

-- the level has one node more
abbrev pub Pushes : InnerType → ℕ → Built → Built → List Child → List Child → Child → Type 0
Pushes inner level old new before above child =
    (origin : Built) (nodes : List Node) (node : Node) → IsLevelLaid inner level origin old before nodes → IsChild inner origin child node
    → IsLevelLaid inner level origin new above (nodes ++ (node ∷ []))

-- The laws.

-- the pages of a level as pages that another may stand over
abbrev pub node_over : ℕ → List Node → Node
node_over p nodes = record {
  page = p;
  count = sum_by (λ (node : Node). node.count) nodes;
  leaves = flat_map (λ (node : Node). node.leaves) nodes;
  key = (get_or nodes 0 no_node).key;
}

abbrev pub nodes_over : ℕ → List (List Node) → List Node
nodes_over p [] = []
nodes_over p (group ∷ groups) = node_over p group ∷ nodes_over (p + 1) groups

-- in each later file that keeps its pages and the heads of its keys the level stands over the nodes
abbrev pub LevelsStand : Type 0
LevelsStand =
    (inner : InnerType) (level : ℕ) (old new : Built) (below above : List Child) (nodes : List Node) (pages : ℕ → Bool) (g : File)
    → (laid : IsLevelLaid inner level old new above nodes) → AreChildren inner old below nodes
    → ((p : ℕ) → length old.pages ≤ p → p < length new.pages → pages p ≡ true)
    → ((h : ℕ) → Contains (heads_in inner laid.groups) h → pages h ≡ true) → IsLater pages (file_so_far new) g
    → AreOver inner g level (nodes_over (length old.pages) laid.groups) nodes

-- another level can be laid over it
abbrev pub LevelsGoOn : Type 0
LevelsGoOn =
    (inner : InnerType) (level : ℕ) (old new : Built) (above : List Child) (nodes : List Node) → (laid : IsLevelLaid inner level old new above nodes)
    → AreChildren inner new above (nodes_over (length old.pages) laid.groups)

-- its pages have the numbers from the count of those that stood on
abbrev pub LevelsAreNumbered : Type 0
LevelsAreNumbered =
    (inner : InnerType) (level : ℕ) (old new : Built) (above : List Child) (nodes : List Node) → (laid : IsLevelLaid inner level old new above nodes)
    → (map (λ (node : Node). node.page) (nodes_over (length old.pages) laid.groups) ≡ range_with_len (length old.pages) (length above))
    × (length new.pages ≡ length old.pages + length above)

-- its pages have no row of form
abbrev pub LevelsAreFormed : Type 0
LevelsAreFormed =
    (inner : InnerType) (level : ℕ) (old new : Built) (above : List Child) (nodes : List Node) (p : ℕ) → IsLevelLaid inner level old new above nodes
    → 2 ≤ level
    → length old.pages ≤ p → p < length new.pages → page_code new.order p (bytes_of new p) ≡ None

-- a page that stood is as before; or it is the head of a chain that a key names, and then it counts two references; its form stays,
-- and so do the marks of its keys
pub record IsKeptPage (old new : Built) (heads : List ℕ) (p : ℕ) : Type 0 where
  pub same : (Contains heads p → ⊥) → bytes_of new p ≡ bytes_of old p
  pub two : Contains heads p → entries_of new.order (bytes_of new p) ≡ 2
  pub page : IsSamePage (abstract_page old.order (bytes_of old p)) (abstract_page new.order (bytes_of new p))
  pub form : page_code new.order p (bytes_of new p) ≡ page_code old.order p (bytes_of old p)
  pub live : HasLiveKeys old.order (bytes_of old p) → HasLiveKeys new.order (bytes_of new p)

abbrev pub LevelsKeepPages : Type 0
LevelsKeepPages =
    (inner : InnerType) (level : ℕ) (old new : Built) (above : List Child) (nodes : List Node) (p : ℕ)
    → (laid : IsLevelLaid inner level old new above nodes) → p < length old.pages → IsKeptPage old new (heads_in inner laid.groups) p

-- so the pages with the level are a later file than those that stood
abbrev pub LevelsAreLater : Type 0
LevelsAreLater =
    (inner : InnerType) (level : ℕ) (old new : Built) (above : List Child) (nodes : List Node) (pages : ℕ → Bool)
    → IsLevelLaid inner level old new above nodes → ((p : ℕ) → pages p ≡ true → p < length old.pages)
    → IsLater pages (file_so_far old) (file_so_far new)

-- over two nodes or more, each of which has room behind another, there are fewer pages than nodes
abbrev pub LevelsShrink : Type 0
LevelsShrink =
    (inner : InnerType) (level : ℕ) (old new : Built) (above : List Child) (nodes : List Node) → IsLevelLaid inner level old new above nodes
    → ((node : Node) → Contains nodes node → child_cost inner node + 40 ≤ old.size) → 2 ≤ length nodes → length above < length nodes
