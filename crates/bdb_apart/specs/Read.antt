-- How an image is read where page 0 tells the guess. Source: docs/FORMAT.md, "Salvage".
use Rattle.std.specs.Prelude.{ℕ, List}
use Rattle.bdb_rescue.specs.of_format.Terms.{head_of}
use Rattle.bdb_rescue.specs.Kept.{Reading}

-- in the order and with the page size of page 0
abbrev pub read : List ℕ → Reading
read image = record { guess = record { order = (head_of image).order; page_size = (head_of image).page_size }; image = image }
