-- A tower of levels over a grove is a grove that is entered by its root. Source: docs/FORMAT.md, "References" and "Stage 3, references" to "Stage 5, reach".
use Rattle.std.specs.Prelude.{◌≡◌, ℕ, ◌+◌, ◌≤◌, ◌==◌, ◌||◌, if◌then◌else◌, Bool, true, false, List, [], ◌∷◌, length, map}
use Rattle.std.specs.List.{All, Contains, filter, flat_map, list_any}
use Rattle.bdb_law_grove.specs.of_format.declared.metadata.FileKind.TheVariants.{Queue}
use Rattle.bdb_law_grove.specs.of_format.Terms.{Chain, Content, File, Inline, Set, Tree, Unknown, has_type, header_in, page_at, type_in}
use Rattle.bdb_law_grove.specs.Part.{IsGrove, are_heads_alone, owners_among}
use Rattle.bdb_law_levels.specs.Nodes.{IsTower, Node}
use Rattle.bdb_law_levels.specs.declared.inner_type.InnerType.{InnerType}
use Rattle.bdb_law_levels.specs.declared.inner_type.InnerType.TheVariants.{Keyed, Numbered}

-- the chain of a key has its head among the pages, which name it once
pub record IsHeadOnce (g : File) (pages : ℕ → Bool) (head : ℕ) : Type 0 where
  pub there : pages head ≡ true
  pub heads : are_heads_alone (owners_among pages g head) ≡ true
  pub once : length (owners_among pages g head) ≡ 1

-- a key stands in its item, or in such a chain
abbrev pub KeyStands : File → (ℕ → Bool) → Content → Type 0
KeyStands g pages (Inline bytes) = Unit {0}
KeyStands g pages (Chain head total) = IsHeadOnce g pages head
KeyStands g pages (Set blocks) = ⊥
KeyStands g pages (Tree root) = ⊥
KeyStands g pages Unknown = ⊥

abbrev pub key_heads : Content → List ℕ
key_heads (Inline bytes) = []
key_heads (Chain head total) = head ∷ []
key_heads (Set blocks) = []
key_heads (Tree root) = []
key_heads Unknown = []

-- the keys of pages of a level stand so, each in a chain of its own; of a tree without keys nothing is asked
abbrev pub KeysStand : InnerType → File → (ℕ → Bool) → List Node → Type 0
KeysStand Keyed g pages nodes =
    All (λ (node : Node). KeyStands g pages node.key) nodes
    × ((head : ℕ) → length (filter (λ other. other == head) (flat_map (λ (node : Node). key_heads node.key) nodes)) ≤ 1)
KeysStand Numbered g pages nodes = Unit {0}

-- the types of the pages right below a page of this level
abbrev pub types_below : InnerType → ℕ → List ℕ
types_below Keyed level = if level == 2 then 5 ∷ 12 ∷ [] else 3 ∷ []
types_below Numbered level = if level == 2 then 6 ∷ [] else 4 ∷ []

-- a page of this level has its type and its level
pub record IsOfLevel (type : InnerType) (g : File) (level : ℕ) (node : Node) : Type 0 where
  pub level_is : (header_in (page_at g node.page)).level ≡ level
  pub type_is : has_type (types_below type (level + 1)) (type_in (page_at g node.page)) ≡ true

-- the pages of levels
abbrev pub pages_of : List (List Node) → List ℕ
pages_of levels = flat_map (λ nodes. map (λ (node : Node). node.page) nodes) levels

abbrev pub is_of : List ℕ → ℕ → Bool
is_of ps p = list_any (λ q. p == q) ps

-- levels over a grove whose entrances are the pages of the level below, none twice: their pages are others, none twice
pub record StandsOver (type : InnerType) (g : File) (pages : ℕ → Bool) (level : ℕ) (below : List Node) (above : List (List Node)) (root : Node) : Type 0 where
  pub tower : IsTower type g level below above root
  pub no_queue : g.kind ≡ Queue → ⊥
  pub low : 1 ≤ level
  pub grove : IsGrove g pages (map (λ (node : Node). node.page) below)
  pub once : (p : ℕ) → length (filter (λ other. other == p) (map (λ (node : Node). node.page) below)) ≤ 1
  pub kinds : All (IsOfLevel type g level) below
  pub keys : KeysStand type g pages below
  pub inside : (p : ℕ) → Contains (pages_of above) p → (1 ≤ p) × (p ≤ g.last) × (pages p ≡ false)
  pub apart : (p : ℕ) → length (filter (λ other. other == p) (pages_of above)) ≤ 1

-- then they and the grove are one that is entered by the root
abbrev pub TowersStand : Type 0
TowersStand =
    (type : InnerType) (g : File) (pages : ℕ → Bool) (level : ℕ) (below : List Node) (above : List (List Node)) (root : Node)
    → StandsOver type g pages level below above root
    → IsGrove g (λ p. pages p || is_of (pages_of above) p) (root.page ∷ [])
