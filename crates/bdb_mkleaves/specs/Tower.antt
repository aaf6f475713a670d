-- Levels that are laid over pages of a tree up to one with a single page, its root. Source: docs/FORMAT.md, "Built trees".
use Rattle.std.specs.Prelude.{◌≡◌, ℕ, ◌+◌, ◌-◌, ◌<◌, ◌≤◌, Bool, true, List, [], ◌∷◌, ◌++◌, length, map, None}
use Rattle.std.specs.List.{Contains, flat_map, range_with_len}
use Rattle.bdb_places.specs.of_format.Terms.{File, entries_of, page_at, page_code}
use Rattle.bdb_pack.specs.of_law_grove.Growing.{IsLater, IsSamePage}
use Rattle.bdb_law_levels.specs.declared.inner_type.InnerType.{InnerType}
use Rattle.bdb_law_levels.specs.Nodes.{IsTower, Node}
use Rattle.bdb_law_levels.specs.Roots.{pages_of}
use Rattle.bdb_pack.specs.Built.{AreWhole, Built, bytes_of, file_so_far, without_last}
use Rattle.bdb_mkleaves.specs.Inner.{HasLiveKeys, HoldsChildrenOn, child_cost, first_cost}
use Rattle.bdb_mkleaves.specs.Levels.{heads_of, node_over}
use Rattle.bdb_mkleaves.specs.Spread.{AreSpreadLevels, named_heads, pages_over}

-- the levels with the root
abbrev pub levels_to : List (List Node) → Node → List (List Node)
levels_to levels top = levels ++ ((top ∷ []) ∷ [])

-- Of pages that stood heads of chains that are named count two references, and all others stay.
pub record CountsNamed (stood : ℕ → Type 0) (old new : Built) (named : List ℕ) : Type 0 where
  pub two : (p : ℕ) → stood p → Contains named p → entries_of new.order (bytes_of new p) ≡ 2
  pub same : (p : ℕ) → stood p → (Contains named p → ⊥) → bytes_of new p ≡ bytes_of old p

-- all did
abbrev pub CountsAll : Built → Built → List ℕ → Type 0
CountsAll old new named = CountsNamed (λ (p : ℕ). p < length old.pages) old new named

-- Of levels over two nodes or more the root is the last page. It holds the nodes of the level below it. The levels stand in each later file of the
-- other pages where any page holds these.
pub record EndsInRoot (inner : InnerType) (old new : Built) (nodes : List Node) (root : ℕ) : Type 0 where
  pub levels : List (List Node)
  pub below : List Node
  pub some : 0 < length below
  pub level : ℕ
  pub high : 2 ≤ level
  pub holds : HoldsChildrenOn inner new root level below
  pub last : root + 1 ≡ length new.pages
  pub low : length old.pages ≤ root
  pub numbers : pages_of levels ≡ range_with_len (length old.pages) (root - length old.pages)
  pub tower : (g : File) (pages : ℕ → Bool) (on : Built) (p : ℕ) → ((q : ℕ) → length old.pages ≤ q → q < root → pages q ≡ true)
      → ((h : ℕ) → Contains (flat_map (heads_of inner) nodes) h → pages h ≡ true) → IsLater pages (file_so_far (without_last new)) g
      → HoldsChildrenOn inner on p level below → p < length on.pages → IsSamePage (page_at (file_so_far on) p) (page_at g p)
      → IsTower inner g 1 nodes (levels_to levels (node_over p below)) (node_over p below)
  pub spread : (p : ℕ) → AreSpreadLevels inner (old.size - 26) nodes (levels_to levels (node_over p below))
  pub counts : (p : ℕ) → CountsAll old new (named_heads inner (old.size - 26) nodes (levels_to levels (node_over p below)))

-- Behind the pages that stood are those of levels over these nodes, the last of them the root; where there is one node it's the root itself.
-- The pages that stood are as before, but that heads of chains of keys may count more.
pub record HasTower (inner : InnerType) (old new : Built) (nodes : List Node) (root : ℕ) : Type 0 where
  pub above : List (List Node)
  pub top : Node
  pub top_is : top.page ≡ root
  pub size : new.size ≡ old.size
  pub order : new.order ≡ old.order
  pub whole : AreWhole new
  pub grows : length old.pages ≤ length new.pages
  pub numbers : pages_of above ≡ range_with_len (length old.pages) (length new.pages - length old.pages)
  pub tower : (g : File) (pages : ℕ → Bool) → ((p : ℕ) → length old.pages ≤ p → p < length new.pages → pages p ≡ true)
      → ((h : ℕ) → Contains (flat_map (heads_of inner) nodes) h → pages h ≡ true) → IsLater pages (file_so_far new) g
      → IsTower inner g 1 nodes above top
  pub spread : AreSpreadLevels inner (old.size - 26) nodes above
  pub counts : CountsAll old new (named_heads inner (old.size - 26) nodes above)
  pub later : (pages : ℕ → Bool) → ((p : ℕ) → pages p ≡ true → p < length old.pages) → IsLater pages (file_so_far old) (file_so_far new)
  pub formed : (p : ℕ) → length old.pages ≤ p → p < length new.pages → page_code new.order p (bytes_of new p) ≡ None
  pub form_kept : (p : ℕ) → p < length old.pages → page_code new.order p (bytes_of new p) ≡ page_code old.order p (bytes_of old p)
  pub live : (p : ℕ) → length old.pages ≤ p → p < length new.pages → HasLiveKeys new.order (bytes_of new p)
  pub kept : (p : ℕ) → p < length old.pages → (Contains (flat_map (heads_of inner) nodes) p → ⊥) → bytes_of new p ≡ bytes_of old p
  pub count : length new.pages ≡ length old.pages + pages_over (length nodes) (old.size - 26) (first_cost inner) (map (child_cost inner) nodes)
  pub ends : 2 ≤ length nodes → EndsInRoot inner old new nodes root
