-- The items of pages that hold data, and whether their values are whole. Source: docs/FORMAT.md, "Salvage".
use Rattle.std.specs.Prelude.{ℕ, Bool, true, false, List, [], get_or}
use Rattle.bdb_law_sums.specs.of_format.Terms.{Chain, Content, DupLeaf, File, Hash, Inline, Item, Leaf, Page, RecnoLeaf, Set, Tree, Unknown, no_item}
use Rattle.bdb_survey.specs.Salvage.{is_whole}

-- the items of a page whose items stand alone or in pairs
abbrev pub slots_in : Page → List Item
slots_in (Leaf page) = page.items
slots_in (Hash page) = page.items
slots_in (RecnoLeaf page) = page.items
slots_in (DupLeaf page) = page.items
slots_in page = []

abbrev pub slot_at : List Item → ℕ → Item
slot_at items i = get_or items i no_item

-- an item has a value by itself that is whole
abbrev pub is_valued : File → Content → Bool
is_valued file (Inline bytes) = true
is_valued file (Set blocks) = false
is_valued file (Chain head total) = is_whole file head total
is_valued file (Tree root) = false
is_valued file Unknown = false
