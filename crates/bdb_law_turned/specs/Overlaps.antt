-- Items of a page that share a byte. Source: docs/FORMAT.md, "The other byte order".
use Rattle.std.specs.Prelude.{ℕ, ◌+◌, nat_lt, ◌==◌, ◌&&◌, not, Bool, false, length, slice_index, get_or}
use Rattle.std.specs.List.{list_any, range_with_len}
use Rattle.bdb_graph.specs.of_format.declared.pages.RecnoItem.{RecnoItem}
use Rattle.bdb_graph.specs.of_format.Terms.{DupLeaf, Free, Hash, Internal, InternalItem, Item, Leaf, Listed, Meta, NoType, Overflow, Page, Queue}
use Rattle.bdb_graph.specs.of_format.Terms.{RecnoInternal, RecnoLeaf, Zero, no_item}
use Rattle.bdb_graph.specs.of_form.Ends.{internal_item_end, leaf_item_end}
use Rattle.bdb_law_turned.specs.Fields.{no_internal, no_recno}

-- two items that begin at different offsets share a byte
abbrev pub share_bytes : ℕ → ℕ → ℕ → ℕ → Bool
share_bytes begin end other other_end = not (begin == other) && (nat_lt begin other_end && nat_lt other end)

-- some two items of a page with an index do
unfoldable pub listed_overlap : {I : Type 0} → (ℕ → I → ℕ) → I → Listed I → Bool
listed_overlap item_end none page =
    let begin : ℕ → ℕ = λ i. slice_index page.offsets i in
    let end : ℕ → ℕ = λ i. item_end (slice_index page.offsets i) (get_or page.items i none) in
    list_any (λ i. list_any (λ j. share_bytes (begin i) (end i) (begin j) (end j)) (range_with_len 0 (length page.items)))
    (range_with_len 0 (length page.items))

-- those of a hash page can't, since each goes up to the one before it
unfoldable pub overlaps : Page → Bool
overlaps Zero = false
overlaps (Free header) = false
overlaps (Meta fields) = false
overlaps (Hash page) = false
overlaps (Internal page) = listed_overlap (λ at (item : InternalItem). internal_item_end at item.key) no_internal page
overlaps (RecnoInternal page) = listed_overlap (λ at (item : RecnoItem). at + 8) no_recno page
overlaps (Leaf page) = listed_overlap (λ at (item : Item). leaf_item_end at item.content) no_item page
overlaps (RecnoLeaf page) = listed_overlap (λ at (item : Item). leaf_item_end at item.content) no_item page
overlaps (DupLeaf page) = listed_overlap (λ at (item : Item). leaf_item_end at item.content) no_item page
overlaps (Overflow header piece) = false
overlaps (Queue number records) = false
overlaps NoType = false
