-- The faults of stage 8 of a recno in the order in which they are noted. Source: docs/FORMAT.md, "Stage 8, contents".
use Rattle.std.specs.Prelude.{ℕ, Bool, List}
use Rattle.std.specs.List.{flat_map}
use Rattle.bdb_tree.specs.of_format.Terms.{File, Page, fault_if, has_wrong_count, has_wrong_record, page_at}
use Rattle.bdb_tree.specs.of_format.declared.rows.ContentsRow.{ContentsRow}
use Rattle.bdb_tree.specs.of_format.declared.rows.ContentsRow.TheVariants.{Count, RecordLength}
use Rattle.bdb_tree.specs.of_format.declared.rows.Row.TheVariants.{Contents}
use Rattle.bdb_tree.specs.of_format.declared.kinds.Fault.{Fault}
use Rattle.bdb_tree.specs.of_format.declared.metadata.BtreeMeta.{BtreeMeta}

-- the fault of a row at a page for which a test holds
abbrev pub fault_on : File → ContentsRow → (Page → Bool) → ℕ → List Fault
fault_on file row test p = fault_if (Contents row) p (test (page_at file p))

-- the faults of a row at these pages
abbrev pub faults_on : File → ContentsRow → (Page → Bool) → List ℕ → List Fault
faults_on file row test pages = flat_map (fault_on file row test) pages

-- the faults of counts, and those of lengths, at these pages
abbrev pub count_faults : File → List ℕ → List Fault
count_faults file pages = faults_on file Count (has_wrong_count file) pages

abbrev pub length_faults : File → BtreeMeta → List ℕ → List Fault
length_faults file meta pages = faults_on file RecordLength (has_wrong_record file meta) pages
