-- Leaves as their pages link them. Source: docs/FORMAT.md, "Stage 6, chains and trees".
use Rattle.std.specs.Prelude.{◌≡◌, ◌⊎◌, ℕ, ◌<◌, ◌==◌, true, false, List, [], ◌∷◌, length, Option, Some, None}
use Rattle.bdb_overflow.specs.of_format.Terms.{File, Internal, Page, RecnoInternal, chain, file_of, structure_faults}
use Rattle.bdb_overflow.specs.of_image.Linked.{FitsLeafPage, IsForest}

-- a page and those that follow it by their next pages, up to next 0; 0 stands for no page
unfoldable pub pages_from : File → ℕ → List ℕ
pages_from file next = elim (next == 0) [ true ↦ [] | false ↦ chain file next ]

-- what a walk of leaves keeps: no row of stages 1 to 6 holds, and it stands at its end or at a leaf
pub record IsLeafWalk (image : List ℕ) (next : ℕ) : Type 0 where
  pub forest : IsForest image
  pub stage : structure_faults (file_of image) ≡ []
  pub at : (next ≡ 0) ⊎ FitsLeafPage (file_of image) next

-- the first of the pages below a page, where it has any
abbrev pub first_below : Option (List ℕ) → Option ℕ
first_below None = None
first_below (Some []) = None
first_below (Some (p ∷ ps)) = Some p

-- an internal page has an item
abbrev pub HasItem : Page → Type 0
HasItem (Internal page) = 0 < length page.items
HasItem (RecnoInternal page) = 0 < length page.items
HasItem page = Unit {0}
