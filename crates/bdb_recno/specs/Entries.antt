-- The records of a recno as a walk over its entries has them left. Source: docs/FORMAT.md, "Databases of a file".
use Rattle.std.specs.Prelude.{ℕ, ◌+◌, ◌<◌, ◌^◌, List, length}
use Rattle.std.specs.List.{enumerate_from, flat_map}
use Rattle.bdb_tree.specs.of_format.Terms.{File, Item, ListKey, listed_entry}
use Rattle.bdb_tree.specs.Entries.{AreFit}

-- the live ones of these entries as pairs of the list, after so many entries
abbrev pub listed_after : File → ℕ → List Item → List (ListKey × List ℕ)
listed_after file passed entries = flat_map (listed_entry file) (enumerate_from (passed + 1) entries)

-- what these entries name is there, and the number of each fits
pub record AreNumbered (file : File) (passed : ℕ) (entries : List Item) : Type 0 where
  pub fit : AreFit file entries
  pub room : passed + length entries < 2 ^ 32
