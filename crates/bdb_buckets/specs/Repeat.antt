-- The fault of a key that comes again in a table. Source: docs/FORMAT.md, "Stage 8, contents".
use Rattle.bdb_tree.specs.of_format.Terms.{StoredPair, fault_at}
use Rattle.bdb_tree.specs.of_format.declared.rows.ContentsRow.TheVariants.{KeyTwice}
use Rattle.bdb_tree.specs.of_format.declared.rows.Row.TheVariants.{Contents}
use Rattle.bdb_tree.specs.of_format.declared.kinds.Fault.{Fault}

-- a pair that has the key of an earlier one
abbrev pub repeat_fault : StoredPair → Fault
repeat_fault pair = fault_at (Contents KeyTwice) pair.page
