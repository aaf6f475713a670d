-- How many pages are read for claims.
use Rattle.std.proofs.Common.{◌≡◌, ℕ, ◌+◌, ◌≤◌, List, Option, Some, subst, sym}
use Rattle.bdb_rescue.specs.Guesses.{chosen}
use Rattle.bdb_rescue.specs.Kept.{Reading, file_in}
use Rattle.bdb_rescue.specs.of_survey.declared.guess.Guess.{Guess}
use Rattle.bdb_repair.specs.Claims.{claim_pages, pages_by}

-- the pages of what is salvaged are those of the image
pub claims_within : (guess : Option Guess) (image : List ℕ) (salvaged : Reading) (old new : ℕ) → chosen guess image ≡ Some salvaged.guess
    → salvaged.image ≡ image → new ≤ old + (file_in salvaged).count → new ≤ old + claim_pages guess image
claims_within guess image salvaged old new told is within =
    subst (λ it. new ≤ old + pages_by it image) (sym told)
    (subst (λ (bytes : List ℕ). new ≤ old + pages_by (Some salvaged.guess) bytes) is within)
