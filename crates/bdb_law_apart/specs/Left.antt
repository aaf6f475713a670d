-- What is left of a sound file: nothing. Source: docs/FORMAT.md, "Salvage".
use Rattle.std.specs.Prelude.{◌≡◌, ℕ, List, []}
use Rattle.bdb_law_homes.specs.of_format.declared.metadata.FileKind.TheVariants.{Queue}
use Rattle.bdb_law_homes.specs.of_format.Terms.{file_of}
use Rattle.bdb_apart.specs.Given.{pairs_left, records_left}
use Rattle.bdb_law_homes.specs.of_law_whole.Kept.{IsSoundFile}
use Rattle.bdb_law_kept.specs.Kept.{IsSound}
use Rattle.bdb_apart.specs.Read.{read}

-- each pair of a sound btree or hash file is given with its database, or names one
abbrev pub NoPairIsLeft : Type 0
NoPairIsLeft = (image : List ℕ) → IsSoundFile image → pairs_left (read image) ≡ []

-- and each record is given with its database
abbrev pub NoRecordIsLeft : Type 0
NoRecordIsLeft = (image : List ℕ) → IsSoundFile image → records_left (read image) ≡ []

-- a sound queue
pub record IsSoundQueue (image : List ℕ) : Type 0 where
  pub sound : IsSound image
  pub kind : (file_of image).kind ≡ Queue

-- of a queue there is nothing that could be left
abbrev pub NothingIsLeftOfQueues : Type 0
NothingIsLeftOfQueues = (image : List ℕ) → IsSoundQueue image → (pairs_left (read image) ≡ []) × (records_left (read image) ≡ [])
