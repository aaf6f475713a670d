-- The file that salvage reads where page 0 tells the guess. Source: docs/FORMAT.md, "Salvage".
use Rattle.std.specs.Prelude.{ℕ, List}
use Rattle.bdb_survey.specs.of_format.Terms.{File, head_of}
use Rattle.bdb_survey.specs.Salvage.{salvaged_file}

-- the whole pages of an image, in the order and with the page size of page 0
abbrev pub guessed : List ℕ → File
guessed image = salvaged_file (head_of image).order (head_of image).page_size image
