-- What the internal pages of a tower say of the pairs or entries below them is right. Source: docs/FORMAT.md, "Stage 8, contents".
use Rattle.std.specs.Prelude.{◌≡◌, ◌⊎◌, ℕ, true, false, List, [], ◌∷◌, length, None}
use Rattle.std.specs.List.{All, flat_map}
use Rattle.bdb_law_grove.specs.of_format.Terms.{File, Item, StoredPair, children_in, entries_in, has_wrong_count, has_wrong_separator, inner_pages}
use Rattle.bdb_law_grove.specs.of_format.Terms.{is_wrong_at, less, page_at, pairs_of, value_of}
use Rattle.bdb_law_levels.specs.Nodes.{HasLeaves, IsTower, Node}
use Rattle.bdb_law_levels.specs.declared.inner_type.InnerType.TheVariants.{Keyed, Numbered}

-- a pair has the key of the one before it and shares it, or a key above it
abbrev pub Follows : StoredPair → StoredPair → Type 0
Follows pair next = ((next.shares ≡ true) × (next.key ≡ pair.key)) ⊎ (less pair.key next.key ≡ true)

abbrev pub FollowFrom : StoredPair → List StoredPair → Type 0
FollowFrom pair [] = Unit {0}
FollowFrom pair (next ∷ pairs) = Follows pair next × FollowFrom next pairs

abbrev pub Follow : List StoredPair → Type 0
Follow [] = Unit {0}
Follow (pair ∷ pairs) = FollowFrom pair pairs

-- a page below which the pairs begin with one that has its own key, that of the node
abbrev pub BeginsWith : File → Node → List StoredPair → Type 0
BeginsWith g node [] = ⊥
BeginsWith g node (pair ∷ pairs) = (pair.shares ≡ false) × (pair.key ≡ value_of g node.key)

abbrev pub pairs_below : File → Node → List StoredPair
pairs_below g node = flat_map (pairs_of g) node.leaves

-- the pages at the bottom of a tower have no page below them
abbrev pub AreLeaves : File → List Node → Type 0
AreLeaves g nodes = All (λ (node : Node). children_in (page_at g node.page) ≡ None) nodes

-- The internal pages of a tower over leaves of pairs have no wrong separator at any page.
abbrev pub SeparatorsOfTowers : Type 0
SeparatorsOfTowers =
    (g : File) (level p : ℕ) (below : List Node) (above : List (List Node)) (root : Node) → IsTower Keyed g level below above root
    → AreLeaves g below → All (HasLeaves g level) below → All (λ (node : Node). BeginsWith g node (pairs_below g node)) below
    → Follow (flat_map (pairs_below g) below)
    → is_wrong_at g (has_wrong_separator g) (inner_pages g root.page) p ≡ false

-- They have no wrong count where the number of each page at the bottom is that of its pairs.
abbrev pub CountsOfTowers : Type 0
CountsOfTowers =
    (g : File) (level p : ℕ) (below : List Node) (above : List (List Node)) (root : Node) → IsTower Keyed g level below above root
    → AreLeaves g below → All (HasLeaves g level) below → All (λ (node : Node). node.count ≡ length (pairs_below g node)) below
    → is_wrong_at g (has_wrong_count g) (inner_pages g root.page) p ≡ false

abbrev pub entries_below : File → Node → List Item
entries_below g node = flat_map (λ p. entries_in (page_at g p)) node.leaves

-- In a tree of records no count is wrong where the number of each page at the bottom is that of its entries.
abbrev pub CountsOfRecords : Type 0
CountsOfRecords =
    (g : File) (level p : ℕ) (below : List Node) (above : List (List Node)) (root : Node) → IsTower Numbered g level below above root
    → AreLeaves g below → All (HasLeaves g level) below → All (λ (node : Node). node.count ≡ length (entries_below g node)) below
    → is_wrong_at g (has_wrong_count g) (inner_pages g root.page) p ≡ false
