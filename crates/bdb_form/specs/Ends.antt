-- Items of pages by the places where they begin. Source: docs/FORMAT.md, "Items".
use Rattle.std.specs.Prelude.{◌<◌, ◌≤◌, ℕ, ◌+◌, List, length}
use Rattle.bdb_layout.specs.of_format.declared.kinds.Order.{Order}
use Rattle.bdb_layout.specs.of_format.Terms.{Chain, Content, Inline, Set, Tree, Unknown, entries_of, index_end, offset_of}

-- an item lies behind the index and within the page, and so many bytes of it are there
pub record IsPlaced (low size least begin end : ℕ) : Type 0 where
  pub behind : low ≤ begin
  pub room : begin + least ≤ size
  pub some : begin < end
  pub within : end ≤ size

-- so do all items of a page
abbrev pub ArePlaced : Order → List ℕ → ℕ → (ℕ → ℕ) → Type 0
ArePlaced order page least end =
    (i : ℕ) → i < entries_of order page → IsPlaced (index_end order page) (length page) least (offset_of order page i) (end (offset_of order page i))

-- where an item of a leaf ends that begins at a place, by what it holds
abbrev pub leaf_item_end : ℕ → Content → ℕ
leaf_item_end at (Inline bytes) = at + 3 + length bytes
leaf_item_end at (Set blocks) = at
leaf_item_end at (Chain head total) = at + 12
leaf_item_end at (Tree root) = at + 12
leaf_item_end at Unknown = at

-- where an internal item ends; an overflow key is an overflow item of a leaf
abbrev pub internal_item_end : ℕ → Content → ℕ
internal_item_end at (Inline bytes) = at + 12 + length bytes
internal_item_end at (Set blocks) = at
internal_item_end at (Chain head total) = at + 24
internal_item_end at (Tree root) = at
internal_item_end at Unknown = at
