-- The faults of stage 8 of a btree in the order in which they are noted. Source: docs/FORMAT.md, "Stage 8, contents".
use Rattle.std.specs.Prelude.{ℕ, Bool, List}
use Rattle.std.specs.List.{flat_map}
use Rattle.bdb_ranks.specs.of_format.Terms.{fault_if}
use Rattle.bdb_ranks.specs.of_format.declared.rows.ContentsRow.{ContentsRow}
use Rattle.bdb_ranks.specs.of_format.declared.rows.Row.TheVariants.{Contents}
use Rattle.bdb_ranks.specs.of_format.declared.kinds.Fault.{Fault}

-- the faults of a row at these pages, where a test holds
abbrev pub faults_at : ContentsRow → (ℕ → Bool) → List ℕ → List Fault
faults_at row test pages = flat_map (λ p. fault_if (Contents row) p (test p)) pages
