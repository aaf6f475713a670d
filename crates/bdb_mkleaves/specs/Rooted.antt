-- Leaves with the units on them, and a tree that is one leaf. Source: docs/FORMAT.md, "Built trees".
use Rattle.std.specs.Prelude.{◌≡◌, ℕ, Bool, true, false, List, [], ◌∷◌, ◌++◌}
use Rattle.std.specs.List.{All, AllZip}
use Rattle.bdb_law_levels.specs.Nodes.{Node}
use Rattle.bdb_pack.specs.Built.{AreWhole, Built}
use Rattle.bdb_mkleaves.specs.Laid.{Counts, IsNodeOf}
use Rattle.bdb_mkleaves.specs.Placed.{LeafUnits, Placed}
use Rattle.bdb_mkleaves.specs.declared.leaf_type.LeafType.{LeafType}
use Rattle.bdb_mkleaves.specs.declared.leaves.Leaves.{Leaves}

abbrev pub leaf_with : ℕ → List Placed → LeafUnits
leaf_with p units = record { page = p; units = units }

-- pages by their numbers, each with its units
abbrev pub zip_units : List ℕ → List (List Placed) → List LeafUnits
zip_units [] groups = []
zip_units (p ∷ ps) [] = []
zip_units (p ∷ ps) (units ∷ groups) = leaf_with p units ∷ zip_units ps groups

-- the leaves, in their order
abbrev pub placed_on : Leaves → List (List Placed) → List Placed → List LeafUnits
placed_on leaves closed units = zip_units (leaves.closed.items ++ (leaves.last ∷ [])) (closed ++ (units ∷ []))

-- a leaf's number of pairs or entries is told, where leaves are counted, and else 0
abbrev pub CountsLeaves : Bool → LeafType → List LeafUnits → List Node → Type 0
CountsLeaves true type placed nodes = AllZip (Counts type) placed nodes
CountsLeaves false type placed nodes = All (λ (node : Node). node.count ≡ 0) nodes

-- One leaf is the root itself, and nothing changes.
pub record IsOneLeaf (leaves : Leaves) (old new : Built) (counted : Bool) (closed : List (List Placed)) (units : List Placed) : Type 0 where
  pub numbers : leaves.closed.items ≡ []
  pub closed_is : closed ≡ []
  pub same : new ≡ old
  pub whole : AreWhole new
  pub node : Node
  pub node_is : IsNodeOf leaves.leaf_type (leaf_with leaves.last units) node
  pub counts : CountsLeaves counted leaves.leaf_type (leaf_with leaves.last units ∷ []) (node ∷ [])
