-- What salvage keeps of a sound file by the guess of its page 0. Source: docs/FORMAT.md, "Salvage".
use Rattle.std.specs.Prelude.{◌≡◌, ℕ, List, Some, None}
use Rattle.bdb_rescue.specs.of_format.Terms.{file_of, head_of}
use Rattle.bdb_law_whole.specs.Kept.{IsSoundFile, KeepsLists}
use Rattle.bdb_rescue.specs.of_survey.declared.guess.Guess.{Guess}
use Rattle.bdb_rescue.specs.Guesses.{chosen}
use Rattle.bdb_rescue.specs.Kept.{file_in}

-- the order and the page size of a file
abbrev pub guess_told : List ℕ → Guess
guess_told image = record { order = (head_of image).order; page_size = (head_of image).page_size }

-- without a guess the file's own order and page size are chosen, and by them salvage keeps what all its databases list
pub record KeepsAll (image : List ℕ) : Type 0 where
  pub guess : chosen None image ≡ Some (guess_told image)
  pub lists : KeepsLists (file_in (record { guess = guess_told image; image = image })) (file_of image)

-- Salvage of a sound btree or hash file loses nothing, and adds nothing.
abbrev pub SalvageKeepsAll : Type 0
SalvageKeepsAll = (image : List ℕ) → IsSoundFile image → KeepsAll image
