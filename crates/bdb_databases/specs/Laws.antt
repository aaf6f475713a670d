-- Laws of the databases that a master names. Source: docs/FORMAT.md, "Databases of a file".
use Rattle.std.specs.Prelude.{◌≡◌, ◌≤◌, ◌^◌, ℕ, IsTrue, List, [], length, map, Some, unwrap_or}
use Rattle.bdb_any_order.specs.AnyOrder.{faults_by_rows}
use Rattle.bdb_any_order.specs.declared.rows.Rows.TheVariants.{AnyOrder}
use Rattle.bdb_recno.specs.of_format.declared.metadata.BtreeMeta.{BtreeMeta}
use Rattle.bdb_recno.specs.of_format.Terms.{Database, ascends, databases, faults_of, file_of, master_in, page_at}

-- the bytes of a name
abbrev pub name_bytes : Database → List ℕ
name_bytes database = unwrap_or database.name []

-- in a file without faults the names of a master's databases ascend strictly in byte order, as the databases stand
abbrev pub NamesAscend : Type 0
NamesAscend =
    (image : List ℕ) (meta : BtreeMeta) → length image ≤ 2 ^ 30 → faults_of image ≡ [] → master_in (page_at (file_of image) 0) ≡ Some meta
    → IsTrue (ascends (map name_bytes (databases (file_of image))))

-- so they do in a file on which no row counts in any order
abbrev pub NamesAscendInAnyOrder : Type 0
NamesAscendInAnyOrder =
    (image : List ℕ) (meta : BtreeMeta) → length image ≤ 2 ^ 30 → faults_by_rows AnyOrder image ≡ [] → master_in (page_at (file_of image) 0) ≡ Some meta
    → IsTrue (ascends (map name_bytes (databases (file_of image))))
