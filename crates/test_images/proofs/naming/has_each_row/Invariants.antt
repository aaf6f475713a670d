-- The list has the faults of the rows that were passed.
use Rattle.std.proofs.Common.{◌≡◌, ℕ, ◌<◌, Some, slice_get, Contains}
use Rattle.test_images.specs.Rows.{row_fault}
use Rattle.test_images.proofs.naming.has_each_row.Given as goal

abbrev pub invariant-loop-row : goal.invariant-loop-row
invariant-loop-row l = (k : ℕ) → k < l.row-index → (row : ℕ × ℕ) → slice_get l.rows k ≡ Some row → Contains l.list (row_fault l.stage row)
