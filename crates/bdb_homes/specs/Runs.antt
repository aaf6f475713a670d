-- The claims of tables to runs of pages.
use Rattle.std.specs.Prelude.{ℕ, List, map}
use Rattle.std.specs.List.{range_with_len}
use Rattle.bdb_survey.specs.of_format.declared.references.Sort.TheVariants.{Bucket}
use Rattle.bdb_homes.specs.Claims.{Claim, claim}

-- a table names a page as the first of a bucket
abbrev pub bucket_claim : ℕ → ℕ → Claim
bucket_claim holder page = claim holder (record { sort = Bucket; page = page; before = 0 })

-- it names so many pages from one on
abbrev pub run_claims : ℕ → ℕ → ℕ → List Claim
run_claims holder first n = map (bucket_claim holder) (range_with_len first n)
