-- The leaves of a tree as pages of its lowest level, over which others are laid. Source: docs/FORMAT.md, "Built trees".
use Rattle.std.specs.Prelude.{ℕ, ◌<◌, if◌then◌else◌, Bool, List, [], ◌∷◌, length}
use Rattle.std.specs.List.{Contains}
use Rattle.bdb_places.specs.of_format.Terms.{Content, Inline}
use Rattle.bdb_law_levels.specs.Nodes.{Node}
use Rattle.bdb_pack.specs.Built.{Built}
use Rattle.bdb_mkleaves.specs.LeafEntries.{Entry, count_of}
use Rattle.bdb_mkleaves.specs.Moved.{AreLinked, numbers_of}
use Rattle.bdb_mkleaves.specs.declared.leaf_type.LeafType.{LeafType}
use Rattle.bdb_mkleaves.specs.declared.leaves.Leaves.{Leaves}
use Rattle.bdb_mkleaves.specs.declared.levels.Child.{Child}

-- what an item over the leaf says: its count, where leaves are counted
abbrev pub told_count : Bool → LeafType → List Entry → ℕ
told_count counted type entries = if counted then count_of type (length entries) else 0

abbrev pub leaf_child : LeafType → Bool → ℕ → List Entry → Child
leaf_child type counted p entries = record { page = p; count = told_count counted type entries; leaf = p }

abbrev pub leaf_children : LeafType → Bool → List ℕ → List (List Entry) → List Child
leaf_children type counted [] all = []
leaf_children type counted (p ∷ ps) [] = []
leaf_children type counted (p ∷ ps) (entries ∷ all) = leaf_child type counted p entries ∷ leaf_children type counted ps all

-- what the first entry holds; a leaf without entries has no key
abbrev pub first_content : List Entry → Content
first_content [] = Inline []
first_content (entry ∷ entries) = entry.item.content

abbrev pub leaf_node : LeafType → Bool → ℕ → List Entry → Node
leaf_node type counted p entries =
    record { page = p; count = told_count counted type entries; leaves = p ∷ []; key = first_content entries }

abbrev pub leaf_nodes : LeafType → Bool → List ℕ → List (List Entry) → List Node
leaf_nodes type counted [] all = []
leaf_nodes type counted (p ∷ ps) [] = []
leaf_nodes type counted (p ∷ ps) (entries ∷ all) = leaf_node type counted p entries ∷ leaf_nodes type counted ps all

-- the leaves are linked, and there
pub record AreSomeLinked (leaves : Leaves) (built : Built) : Type 0 where
  pub all : List (List Entry)
  pub linked : AreLinked leaves built all
  pub there : (p : ℕ) → Contains (numbers_of leaves) p → p < length built.pages
