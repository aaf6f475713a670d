-- Leaves that name their neighbours, and the tree over them. Source: docs/FORMAT.md, "Stage 6, chains and trees".
use Rattle.std.specs.Prelude.{◌≡◌, ℕ, true, false, List, [], ◌∷◌}
use Rattle.std.specs.List.{All, flat_map, list_any}
use Rattle.bdb_law_grove.specs.of_format.declared.references.Sort.{Sort}
use Rattle.bdb_law_grove.specs.of_format.declared.references.Sort.TheVariants.{Root, DuplicateRoot}
use Rattle.bdb_law_grove.specs.of_format.Terms.{File, first_or_zero, has_type, header_in, page_at, places_from, type_in}
use Rattle.bdb_law_grove.specs.Part.{has_wrong_place, is_wrong_place}
use Rattle.bdb_law_levels.specs.Nodes.{HasLeaves, IsTower, Node}
use Rattle.bdb_law_levels.specs.declared.inner_type.InnerType.{InnerType}

-- each leaf names the one before it, the first of them a given one, and the one after it, 0 at the end
abbrev pub AreLinked : File → ℕ → List ℕ → Type 0
AreLinked g before [] = Unit {0}
AreLinked g before (p ∷ ps) =
    ((header_in (page_at g p)).previous ≡ before) × ((header_in (page_at g p)).next ≡ first_or_zero ps) × AreLinked g p ps

-- the types of the leaves of a tree: pairs or records below metadata, records or sorted data below a set
abbrev pub leaf_types : Sort → List ℕ
leaf_types Root = 5 ∷ 6 ∷ []
leaf_types DuplicateRoot = 6 ∷ 12 ∷ []
leaf_types sort = []

-- then no leaf has a wrong type or a wrong link
abbrev pub LinksStand : Type 0
LinksStand =
    (g : File) (sort : Sort) (ps : List ℕ) → AreLinked g 0 ps → All (λ p. has_type (leaf_types sort) (type_in (page_at g p)) ≡ true) ps
    → list_any (is_wrong_place g) (places_from sort 0 ps) ≡ false

-- and nor has one of a tower over them
abbrev pub LinksOfTowers : Type 0
LinksOfTowers =
    (type : InnerType) (g : File) (sort : Sort) (level : ℕ) (below : List Node) (above : List (List Node)) (root : Node)
    → IsTower type g level below above root → All (HasLeaves g level) below
    → list_any (is_wrong_place g) (places_from sort 0 (flat_map (λ (node : Node). node.leaves) below)) ≡ false
    → has_wrong_place g sort root.page ≡ false
