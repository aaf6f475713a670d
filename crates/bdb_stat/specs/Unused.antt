-- Bytes of pages that hold nothing. Source: docs/FORMAT.md, "Statistics".
use Rattle.std.specs.Prelude.{ℕ, ◌+◌, ◌-◌, ◌*◌, nat_le, nat_lt, ◌==◌, ◌&&◌, not, if◌then◌else◌, Bool, length, slice_index, get_or}
use Rattle.std.specs.List.{filter, list_any, range_with_len, sum_by}
use Rattle.bdb_law_turned.specs.of_format.Terms.{DupLeaf, File, Free, Hash, Internal, InternalItem, Item, Leaf, Listed, Meta, NoType, Overflow, Page, Queue}
use Rattle.bdb_law_turned.specs.of_format.Terms.{RecnoInternal, RecnoLeaf, Zero, no_item, page_at}
use Rattle.bdb_law_turned.specs.of_format.declared.pages.RecnoItem.{RecnoItem}
use Rattle.bdb_law_turned.specs.Fields.{no_internal, no_recno}
use Rattle.bdb_law_turned.specs.of_form.Ends.{internal_item_end, leaf_item_end}

-- a place lies in one of n ranges, each from its begin up to its end
abbrev pub lies_in : ℕ → (ℕ → ℕ) → (ℕ → ℕ) → ℕ → Bool
lies_in n begin end k = list_any (λ i. nat_le (begin i) k && nat_lt k (end i)) (range_with_len 0 n)

-- how many places from one up to another lie in none of n ranges
abbrev pub places_outside : ℕ → ℕ → ℕ → (ℕ → ℕ) → (ℕ → ℕ) → ℕ
places_outside from to n begin end = length (filter (λ k. not (lies_in n begin end k)) (range_with_len from (to - from)))

-- how many bytes of a page of a size lie behind its index and in no item, whose ends are given by their places in the index
unfoldable pub listed_unused : {I : Type 0} → ℕ → Listed I → (ℕ → ℕ) → ℕ
listed_unused size page end = places_outside (26 + 2 * length page.offsets) size (length page.offsets) (λ i. slice_index page.offsets i) end

-- an item of a hash page ends where the one before it begins, and the first at the page's end
abbrev pub hash_unused : ℕ → Listed Item → ℕ
hash_unused size page = listed_unused size page (λ i. if i == 0 then size else slice_index page.offsets (i - 1))

-- other items end where what they hold says
abbrev pub item_unused : {I : Type 0} → ℕ → (ℕ → I → ℕ) → I → Listed I → ℕ
item_unused size item_end none page = listed_unused size page (λ i. item_end (slice_index page.offsets i) (get_or page.items i none))

abbrev pub leaf_unused : ℕ → Listed Item → ℕ
leaf_unused size page = item_unused size (λ at (item : Item). leaf_item_end at item.content) no_item page

-- how many bytes of a page of a size hold nothing, by its type
unfoldable pub unused_in : ℕ → Page → ℕ
unused_in size Zero = 0
unused_in size (Free header) = 0
unused_in size (Meta fields) = 0
unused_in size (Hash page) = hash_unused size page
unused_in size (Internal page) = item_unused size (λ at (item : InternalItem). internal_item_end at item.key) no_internal page
unused_in size (RecnoInternal page) = item_unused size (λ at (item : RecnoItem). at + 8) no_recno page
unused_in size (Leaf page) = leaf_unused size page
unused_in size (RecnoLeaf page) = leaf_unused size page
unused_in size (DupLeaf page) = leaf_unused size page
unused_in size (Overflow header piece) = size - 26 - length piece
unused_in size (Queue number records) = 0
unused_in size NoType = 0

-- those of the pages below a number, and of all
abbrev pub unused_below : File → ℕ → ℕ
unused_below file n = sum_by (λ p. unused_in file.size (page_at file p)) (range_with_len 0 n)

abbrev pub unused : File → ℕ
unused file = unused_below file file.count
