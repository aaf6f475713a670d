-- The entries of leaves as a walk over a tree has them left. What they are as a whole is `tree_entries` of bdb_format.
use Rattle.std.specs.Prelude.{ℕ, ◌≤◌, not, List, [], ◌++◌, map}
use Rattle.std.specs.List.{All, filter, flat_map}
use Rattle.bdb_overflow.specs.of_format.Terms.{File, Item, entries_in, page_at, value_of}
use Rattle.bdb_overflow.specs.Datum.{FitsContent}
use Rattle.bdb_tree.specs.declared.entries.LeafEntries.{LeafEntries}
use Rattle.bdb_tree.specs.declared.entries.LeafEntries.TheVariants.{Empty, Records, Sorted}

abbrev pub leaf_entries_seen : LeafEntries → List Item
leaf_entries_seen Empty = []
leaf_entries_seen (Records items) = items
leaf_entries_seen (Sorted items) = items

-- the entries of these leaves
abbrev pub entries_on : File → List ℕ → List Item
entries_on file leaves = flat_map (λ p. entries_in (page_at file p)) leaves

-- the entries that are left: those of the leaf at hand, and those of the leaves after it
abbrev pub entries_left : File → List Item → List ℕ → List Item
entries_left file entries leaves = entries ++ entries_on file leaves

-- these pages are there
abbrev pub AreThere : File → List ℕ → Type 0
AreThere file pages = All (λ p. p ≤ file.last) pages

-- what these entries name is there
abbrev pub AreFit : File → List Item → Type 0
AreFit file entries = All (λ (entry : Item). FitsContent file entry.content) entries

-- the values of the live ones of these entries
abbrev pub values_of : File → List Item → List (List ℕ)
values_of file entries = map (λ (entry : Item). value_of file entry.content) (filter (λ (entry : Item). not entry.deleted) entries)
