-- The members that were passed are faults of the rows.
use Rattle.std.proofs.Common.{◌≡◌, ℕ, ◌<◌, Some, map, slice_get, Contains}
use Rattle.bdb_tree.specs.of_format.declared.kinds.Fault.{Fault}
use Rattle.test_images.specs.Rows.{row_fault}
use Rattle.test_images.proofs.naming.has_only_rows.Given as goal

abbrev pub invariant-loop-i : goal.invariant-loop-i
invariant-loop-i l =
    (k : ℕ) → k < l.i → (fault : Fault) → slice_get l.list k ≡ Some fault → Contains (map (row_fault l.stage) l.rows) fault
