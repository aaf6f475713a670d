-- The databases that are found in a sound file. Source: docs/FORMAT.md, "Salvage".
use Rattle.std.specs.Prelude.{◌≡◌, ℕ, List, map}
use Rattle.bdb_law_homes.specs.of_format.Terms.{Database, databases, file_of}
use Rattle.bdb_apart.specs.Found.{Found, found}
use Rattle.bdb_law_homes.specs.of_law_whole.Kept.{IsSoundFile}
use Rattle.bdb_apart.specs.Read.{read}

-- a database that is found, as a file has it
abbrev pub database_of : Found → Database
database_of db = record { name = db.name; fields = db.fields }

-- the databases that are found in a sound btree or hash file are those that it has, in the same order
abbrev pub DatabasesAreFound : Type 0
DatabasesAreFound = (image : List ℕ) → IsSoundFile image → map database_of (found (read image)) ≡ databases (file_of image)
