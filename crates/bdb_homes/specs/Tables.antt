-- The claims of a table to its buckets.
use Rattle.std.specs.Prelude.{ℕ, List, map}
use Rattle.std.specs.List.{range_with_len}
use Rattle.bdb_survey.specs.of_format.Terms.{first_page}
use Rattle.bdb_homes.specs.Claims.{Claim}
use Rattle.bdb_homes.specs.Runs.{bucket_claim}

-- so many buckets from one on
abbrev pub table_claims : ℕ → List ℕ → ℕ → ℕ → List Claim
table_claims holder spares bucket n = map (λ b. bucket_claim holder (first_page b spares)) (range_with_len bucket n)
