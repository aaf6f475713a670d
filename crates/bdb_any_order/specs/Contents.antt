-- The faults of stage 8, database by database. Source: docs/FORMAT.md, "Stage 8, contents".
use Rattle.std.specs.Prelude.{ℕ, List}
use Rattle.std.specs.List.{flat_map}
use Rattle.bdb_btree.specs.of_format.declared.kinds.Fault.{Fault}
use Rattle.bdb_btree.specs.of_format.Terms.{File, database_faults, fields_in, page_at}

-- those of the database with the metadata on a page
abbrev pub faults_on : File → ℕ → List Fault
faults_on file p = flat_map (database_faults file) (fields_in (page_at file p))
