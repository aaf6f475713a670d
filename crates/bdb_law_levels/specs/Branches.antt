-- A tower of levels over a branch is a branch that is entered by its root. Source: docs/FORMAT.md, "References" and "Stage 3, references" to
-- "Stage 6, chains and trees".
use Rattle.std.specs.Prelude.{◌≡◌, ℕ, ◌||◌, Bool, false, List, [], ◌∷◌, map}
use Rattle.std.specs.List.{All, list_any}
use Rattle.bdb_law_grove.specs.of_format.Terms.{File, content_chains, is_wrong_length}
use Rattle.bdb_law_grove.specs.Part.{IsBranch}
use Rattle.bdb_law_levels.specs.Nodes.{Node}
use Rattle.bdb_law_levels.specs.declared.inner_type.InnerType.{InnerType}
use Rattle.bdb_law_levels.specs.declared.inner_type.InnerType.TheVariants.{Keyed, Numbered}
use Rattle.bdb_law_levels.specs.Roots.{StandsOver, is_of, pages_of}

-- the key of a page of a level has its length, where it stands in a chain; of a tree without keys nothing is asked
abbrev pub KeyHasLength : InnerType → File → Node → Type 0
KeyHasLength Keyed g node = list_any (is_wrong_length g) (content_chains node.key) ≡ false
KeyHasLength Numbered g node = Unit {0}

-- Then the branch and the levels over it are one branch: internal pages name no roots, and the chains of the keys of the level below.
abbrev pub TowersAreBranches : Type 0
TowersAreBranches =
    (type : InnerType) (g : File) (pages : ℕ → Bool) (level : ℕ) (below : List Node) (above : List (List Node)) (root : Node)
    → StandsOver type g pages level below above root → All (KeyHasLength type g) below → IsBranch g pages (map (λ (node : Node). node.page) below)
    → IsBranch g (λ p. pages p || is_of (pages_of above) p) (root.page ∷ [])
