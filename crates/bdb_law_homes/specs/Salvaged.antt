-- What homes are in the file that salvage reads of a sound image. Source: docs/FORMAT.md, "Salvage".
use Rattle.std.specs.Prelude.{◌≡◌, ◌≢◌, ℕ, List}
use Rattle.bdb_law_whole.specs.of_format.declared.metadata.FileKind.TheVariants.{Queue}
use Rattle.bdb_law_whole.specs.of_format.Terms.{file_of, head_of}
use Rattle.bdb_law_whole.specs.of_image.Linked.{IsForest}
use Rattle.bdb_homes.specs.Homes.{home}
use Rattle.bdb_law_whole.specs.Guessed.{guessed}

-- they are those of the file
abbrev pub SalvagedHomesAreThose : Type 0
SalvagedHomesAreThose =
    (image : List ℕ) (p : ℕ) → IsForest image → (head_of image).kind ≢ Queue → home (guessed image) p ≡ home (file_of image) p
