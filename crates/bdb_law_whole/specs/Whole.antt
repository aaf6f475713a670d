-- What salvage reads of a sound file. Source: docs/FORMAT.md, "Salvage".
use Rattle.std.specs.Prelude.{◌≡◌, ◌<◌, ◌≤◌, ℕ, List, []}
use Rattle.std.specs.List.{All}
use Rattle.bdb_survey.specs.of_format.declared.metadata.FileKind.TheVariants.{Queue}
use Rattle.bdb_survey.specs.of_format.Terms.{file_of, head_of, leaves, page_at, structure_faults}
use Rattle.bdb_survey.specs.of_image.Linked.{FitsDupRoot, IsForest}
use Rattle.bdb_survey.specs.Salvage.{stored_on, whole_set}
use Rattle.bdb_survey.specs.of_law_sums.Databases.{given_on}
use Rattle.bdb_law_whole.specs.Guessed.{guessed}

-- each number is a byte
abbrev pub AreBytes : List ℕ → Type 0
AreBytes bytes = All (λ (byte : ℕ). byte < 256) bytes

-- no row of the first six stages holds, and the file is a btree or hash file
pub record IsStructured (image : List ℕ) : Type 0 where
  pub forest : IsForest image
  pub structure : structure_faults (file_of image) ≡ []
  pub kind : (head_of image).kind ≡ Queue → ⊥

-- up to the last page, salvage reads the pages of a sound file
abbrev pub SalvagedPagesAreThose : Type 0
SalvagedPagesAreThose =
    (image : List ℕ) (p : ℕ) → IsForest image → ((head_of image).kind ≡ Queue → ⊥) → p ≤ (file_of image).last
    → page_at (guessed image) p ≡ page_at (file_of image) p

-- the leaves that salvage finds of a set off the page are those below its root
abbrev pub SetsAreWhole : Type 0
SetsAreWhole =
    (image : List ℕ) (root : ℕ) → IsStructured image → AreBytes image → FitsDupRoot (file_of image) root
    → whole_set (guessed image) root ≡ leaves (file_of image) root

-- the pairs that salvage finds on a page are those that its pairs give, each with all its data
abbrev pub StoredPairsAreListed : Type 0
StoredPairsAreListed =
    (image : List ℕ) (p : ℕ) → IsStructured image → AreBytes image → p ≤ (file_of image).last
    → stored_on (guessed image) p ≡ given_on (file_of image) p
