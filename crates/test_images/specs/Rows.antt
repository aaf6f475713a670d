-- Lists of faults beside tables of their pages and codes. Source: this project's tests.
use Rattle.std.specs.Prelude.{◌↔◌, ℕ, List, map}
use Rattle.std.specs.List.{Contains}
use Rattle.bdb_tree.specs.of_format.declared.kinds.Fault.{Fault}

-- a page and a code, as a fault of this stage
abbrev pub row_fault : ℕ → ℕ × ℕ → Fault
row_fault stage row = record { stage = stage; page = row.0; code = row.1 }

-- a list has the faults of these rows and no others, in any order and repeats allowed
abbrev pub HasRows : List Fault → ℕ → List (ℕ × ℕ) → Type 0
HasRows list stage rows = (fault : Fault) → Contains list fault ↔ Contains (map (row_fault stage) rows) fault
