-- How the counts of internal pages lead to an entry. Source: docs/FORMAT.md, "Databases of a file".
use Rattle.std.specs.Prelude.{◌≡◌, ℕ, ◌-◌, ◌^◌, ◌==◌, min, nat_lt, not, if◌then◌else◌, Bool, false, List, [], ◌∷◌, length, Option, Some, None}
use Rattle.std.specs.List.{Contains}
use Rattle.bdb_tree.specs.of_format.declared.pages.RecnoItem.{RecnoItem}
use Rattle.bdb_tree.specs.of_format.Terms.{File, has_wrong_count, inner_pages, page_at, tree_entries}

-- no internal page at or below this page has a wrong count
pub record HasRightCounts (file : File) (p : ℕ) : Type 0 where
  pub right : (q : ℕ) → Contains (inner_pages file p) q → has_wrong_count file (page_at file q) ≡ false

-- by the counts of items, the child below which the entry at a place stands, and its place there
abbrev pub child_by_count : List RecnoItem → ℕ → Option (ℕ × ℕ)
child_by_count [] place = None
child_by_count (item ∷ items) place =
    if nat_lt place item.count then Some (item.child, place) else child_by_count items (place - item.count)

-- an item of an internal page with another count than entries stand below its child
abbrev pub miscounts : File → RecnoItem → Bool
miscounts file item = not (item.count == length (tree_entries file item.child))

-- how many there are, up to the greatest number of 64 bits
abbrev pub counted : ℕ → ℕ
counted n = min (2 ^ 64 - 1) n
