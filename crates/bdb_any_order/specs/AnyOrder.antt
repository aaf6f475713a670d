-- The rows that count, by what is asked: all of them, or those that don't say in which order keys and data stand, with all of a master's. Source:
-- docs/FORMAT.md, "Stage 8, contents".
use Rattle.std.specs.Prelude.{ℕ, ◌==◌, ◌&&◌, ◌||◌, not, Bool, false, List, Option, Some, None}
use Rattle.std.specs.List.{filter, range_with_len}
use Rattle.bdb_any_order.specs.declared.rows.Rows.{Rows}
use Rattle.bdb_any_order.specs.declared.rows.Rows.TheVariants.{All, AnyOrder}
use Rattle.bdb_btree.specs.of_format.Terms.{BtreeFields, File, Judgement, contents_faults, database_rows, faults_in, file_of, first_judgement, holds_code}
use Rattle.bdb_btree.specs.of_format.Terms.{master_in, or_else, page_at, row_code, row_stage}
use Rattle.bdb_btree.specs.of_format.declared.rows.ContentsRow.{ContentsRow}
use Rattle.bdb_btree.specs.of_format.declared.rows.ContentsRow.TheVariants.{KeyOrder, Separator, DuplicateOrder}
use Rattle.bdb_btree.specs.of_format.declared.rows.Row.TheVariants.{Contents}
use Rattle.bdb_btree.specs.of_format.declared.kinds.Fault.{Fault}
use Rattle.bdb_btree.specs.of_format.declared.metadata.BtreeMeta.{BtreeMeta}

-- a fault is of this row of stage 8
abbrev pub is_row : Fault → ContentsRow → Bool
is_row fault row = fault.stage == row_stage (Contents row) && fault.code == row_code (Contents row)

-- a fault is of a row that says in which order keys or data stand
abbrev pub is_of_order : Fault → Bool
is_of_order fault = is_row fault KeyOrder || is_row fault Separator || is_row fault DuplicateOrder

-- the row of a fault holds at its page for the database with this metadata, if there is one
abbrev pub holds_under : File → Option BtreeMeta → Fault → Bool
holds_under file None fault = false
holds_under file (Some meta) fault = holds_code fault.code (database_rows file (BtreeFields meta) fault.page)

-- a fault of stage 8 counts in any order: it isn't of order, or it is one of the master's
abbrev pub counts : File → Fault → Bool
counts file fault = not (is_of_order fault) || holds_under file (master_in (page_at file 0)) fault

-- the faults of stage 8 that count
abbrev pub contents_by : Rows → File → List Fault
contents_by All file = contents_faults file
contents_by AnyOrder file = filter (counts file) (contents_faults file)

-- the faults of the first of these stages that has any; where none has, those of stage 8 that count
abbrev pub stages_by : Rows → List ℕ → List ℕ → List Fault
stages_by rows stages image = or_else (faults_in stages image) (λ _. contents_by rows (file_of image))

-- the faults of the first of all stages that has any that count
unfoldable pub faults_by_rows : Rows → List ℕ → List Fault
faults_by_rows rows image = stages_by rows (range_with_len 1 7) image

-- the verdict by the rows that count
abbrev pub verdict_by : Rows → List ℕ → Option Judgement
verdict_by rows image = first_judgement (faults_by_rows rows image)
