-- A level of a tree over the level below it. Source: docs/FORMAT.md, "Internal items".
use Rattle.std.specs.Prelude.{◌≡◌, ℕ, suc, List, [], ◌∷◌, ◌++◌, Some}
use Rattle.std.specs.List.{flat_map}
use Rattle.bdb_law_grove.specs.of_format.Terms.{File, children_in, leaves_in, page_at}

-- pages whose children, joined in order, are the pages of the level below
abbrev pub AreOver : File → List ℕ → List ℕ → Type 0
AreOver file [] below = below ≡ []
AreOver file (q ∷ qs) below =
    (children : List ℕ) × (rest : List ℕ) × (children_in (page_at file q) ≡ Some children) × (below ≡ children ++ rest) × AreOver file qs rest

-- a level has the leaves of the level below it
abbrev pub LevelsHaveTheSameLeaves : Type 0
LevelsHaveTheSameLeaves =
    (file : File) (level : ℕ) (over below : List ℕ) → AreOver file over below
    → flat_map (leaves_in (suc level) file) over ≡ flat_map (leaves_in level file) below
