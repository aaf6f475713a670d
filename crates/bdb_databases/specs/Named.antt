-- The databases of a file that can be read, by their places, and how the code finds them. Source: docs/FORMAT.md, "Databases of a file".
use Rattle.std.specs.Prelude.{◌≡◌, ℕ, List, [], get_or, Some, None}
use Rattle.bdb_recno.specs.of_format.Terms.{Database, File, QueueFields, database_on, databases, file_of}
use Rattle.bdb_any_order.specs.AnyOrder.{faults_by_rows}
use Rattle.bdb_master.specs.Entries.{NamedPair}
use Rattle.bdb_any_order.specs.declared.rows.Rows.TheVariants.{AnyOrder}

-- what stands past the last database
abbrev pub no_database : Database
no_database = record { name = None; fields = QueueFields (record { first = 0; current = 0; re_len = 0; re_pad = 0; per_page = 0 }) }

-- the database at a place, from 0
abbrev pub database_at : File → ℕ → Database
database_at file i = get_or (databases file) i no_database

-- the database that a pair of a master names; none where it names no metadata page
abbrev pub entry_database : File → NamedPair → List Database
entry_database file entry = database_on file (Some entry.key) entry.names

-- no row that counts in any order holds for an image, and these are its databases
pub record IsReadable (image : List ℕ) (all : List Database) : Type 0 where
  pub none_counts : faults_by_rows AnyOrder image ≡ []
  pub all_are : all ≡ databases (file_of image)
