-- How many pages are read for claims at most, each once. Source: docs/FORMAT.md, "Salvage".
use Rattle.std.specs.Prelude.{ℕ, List, Option, Some, None}
use Rattle.bdb_rescue.specs.Guesses.{chosen}
use Rattle.bdb_rescue.specs.Kept.{file_in}
use Rattle.bdb_rescue.specs.of_survey.declared.guess.Guess.{Guess}

-- the whole pages of an image by a guess, where there is one
abbrev pub pages_by : Option Guess → List ℕ → ℕ
pages_by None image = 0
pages_by (Some guess) image = (file_in (record { guess = guess; image = image })).count

-- by the guess that is given, or else the one that page 0 tells
abbrev pub claim_pages : Option Guess → List ℕ → ℕ
claim_pages guess image = pages_by (chosen guess image) image
