-- Laws of the rows that count in any order. Source: docs/FORMAT.md, "Stage 8, contents".
use Rattle.std.specs.Prelude.{◌≡◌, ℕ, List, [], false, Some}
use Rattle.std.specs.List.{Contains}
use Rattle.bdb_any_order.specs.AnyOrder.{contents_by, faults_by_rows, is_of_order, verdict_by}
use Rattle.bdb_any_order.specs.declared.rows.Rows.TheVariants.{All, AnyOrder}
use Rattle.bdb_btree.specs.of_format.declared.kinds.Fault.{Fault}
use Rattle.bdb_btree.specs.of_format.declared.metadata.BtreeMeta.{BtreeMeta}
use Rattle.bdb_btree.specs.of_format.Terms.{BtreeFields, contents_faults, database_faults, faults_of, file_of, master_in, page_at, verdict_of}

-- where all rows count, the faults are those of the file, and so is the verdict
abbrev pub AllAreOfAll : Type 0
AllAreOfAll = (image : List ℕ) → (faults_by_rows All image ≡ faults_of image) × (verdict_by All image ≡ verdict_of image)

-- a sound file has no fault that counts in any order
abbrev pub SoundInAnyOrder : Type 0
SoundInAnyOrder = (image : List ℕ) → faults_of image ≡ [] → faults_by_rows AnyOrder image ≡ []

-- in a file on which no row of order holds the same faults count in any order
abbrev pub SameWithoutOrder : Type 0
SameWithoutOrder =
    (image : List ℕ) → ((fault : Fault) → Contains (contents_faults (file_of image)) fault → is_of_order fault ≡ false)
    → faults_by_rows AnyOrder image ≡ faults_of image

-- all faults of a master count in any order
abbrev pub MasterCounts : Type 0
MasterCounts =
    (image : List ℕ) (meta : BtreeMeta) (fault : Fault) → master_in (page_at (file_of image) 0) ≡ Some meta
    → Contains (database_faults (file_of image) (BtreeFields meta)) fault
    → Contains (contents_by AnyOrder (file_of image)) fault
