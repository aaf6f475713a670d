-- The pages of a tree of records. Source: docs/FORMAT.md, "Types" and "Items".
use Rattle.std.specs.Prelude.{◌≡◌, ℕ, IsTrue, [], ◌∷◌, Some}
use Rattle.bdb_tree.specs.of_format.Terms.{File, has_type, page_at, type_in}

-- an internal page or a leaf of records
abbrev pub IsRecnoPage : File → ℕ → Type 0
IsRecnoPage file p = IsTrue (has_type (4 ∷ 6 ∷ []) (type_in (page_at file p)))

-- a leaf of records
abbrev pub IsRecnoLeaf : File → ℕ → Type 0
IsRecnoLeaf file p = type_in (page_at file p) ≡ Some 6
