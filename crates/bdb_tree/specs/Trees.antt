-- Pages of trees and their roots. Source: docs/FORMAT.md, "References".
use Rattle.std.specs.Prelude.{◌⊎◌, ℕ, IsTrue, List, [], ◌∷◌}
use Rattle.std.specs.Option.{unwrap_or}
use Rattle.bdb_overflow.specs.of_format.Terms.{File, children_in, has_type, page_at, type_in}
use Rattle.bdb_overflow.specs.of_image.Linked.{FitsDupRoot, FitsTreeRoot}

-- an internal page or a leaf
abbrev pub IsTreePage : File → ℕ → Type 0
IsTreePage file p = IsTrue (has_type (3 ∷ 4 ∷ 5 ∷ 6 ∷ 12 ∷ []) (type_in (page_at file p)))

-- metadata, or data that are a set off the page, names this page as the root of a tree
abbrev pub IsRoot : File → ℕ → Type 0
IsRoot file p = FitsTreeRoot file p ⊎ FitsDupRoot file p

-- the pages right below a page, in order; a leaf has none
abbrev pub children_at : File → ℕ → List ℕ
children_at file p = unwrap_or (children_in (page_at file p)) []
