-- The buckets of a table as runs of pages, and which pages fit as buckets. Source: docs/FORMAT.md, "References" and "Hash formulas".
use Rattle.std.specs.Prelude.{◌≡◌, ℕ, ◌+◌, ◌-◌, ◌<◌, ◌^◌, nat_lt, Bool, List, [], ◌++◌, map, length, get_or, Option, Some, None}
use Rattle.std.specs.List.{list_any, range_with_len}
use Rattle.bdb_faults.specs.of_format.declared.references.Reference.{Reference}
use Rattle.bdb_faults.specs.of_format.declared.references.Sort.{Sort}
use Rattle.bdb_faults.specs.of_format.declared.references.Sort.TheVariants.{Bucket}
use Rattle.bdb_faults.specs.of_format.Terms.{File, fails_as, first_page, fit_code}
use Rattle.bdb_slots.specs.Slots.{placed}
use Rattle.bdb_image.specs.declared.bucket_fits.BucketFits.{BucketFits}
use Rattle.bdb_image.specs.declared.buckets.Buckets.{Buckets}

-- so many pages from one on, each as a bucket
abbrev pub run_names : ℕ → ℕ → List (Sort × ℕ)
run_names first n = map (λ target. (Bucket, target)) (range_with_len first n)

-- so many buckets from one on, each by its first page
abbrev pub bucket_names : List ℕ → ℕ → ℕ → List (Sort × ℕ)
bucket_names spares bucket n = map (λ b. (Bucket, first_page b spares)) (range_with_len bucket n)

-- references to so many pages from one on, each as a bucket; the first stands at this place
abbrev pub run_refs : ℕ → ℕ → ℕ → List Reference
run_refs place first n = placed place (run_names first n)

-- the references to all buckets of a table; the first stands at this place
abbrev pub table_refs : ℕ → Buckets → List Reference
table_refs place buckets = placed place (bucket_names buckets.spares 0 (buckets.max_bucket + 1))

-- those of a page that may be the metadata of a table
abbrev pub refs_if_table : ℕ → Option Buckets → List Reference
refs_if_table place None = []
refs_if_table place (Some buckets) = table_refs place buckets

-- the buckets are few enough for their pages to be counted
abbrev pub HasFew : Option Buckets → Type 0
HasFew None = Unit {0}
HasFew (Some buckets) = buckets.max_bucket < 2 ^ 31

-- the references of a page: some one by one, and behind them those to all buckets of a table
pub record IsApart (references others : List Reference) (buckets : Option Buckets) : Type 0 where
  pub place : ℕ
  pub all : references ≡ others ++ refs_if_table place buckets
  pub few : HasFew buckets

-- whether a reference to a page as a bucket fails with a code: it depends on that page alone, whoever holds it
abbrev pub fails_as_bucket : File → ℕ → ℕ → Bool
fails_as_bucket file code p = fails_as code (fit_code file 0 (record { place = 0; sort = Bucket; target = p }))

-- the last of the pages below an end that fails so, counted from 1: from a page on one does, where that is above it
abbrev pub IsLast : File → ℕ → ℕ → ℕ → Type 0
IsLast file code end last = (p : ℕ) → list_any (fails_as_bucket file code) (range_with_len p (end - p)) ≡ nat_lt p last

-- these are the last ones below each end
pub record AreLasts (file : File) (code : ℕ) (lasts : List ℕ) : Type 0 where
  pub each : (end : ℕ) → end < length lasts → IsLast file code end (get_or lasts end 0)

-- which pages of the file fit as buckets, up to the end behind its last page
pub record AreFits (file : File) (fits : BucketFits) : Type 0 where
  pub kinds : AreLasts file 2 fits.kinds.items
  pub backs : AreLasts file 4 fits.backs.items
  pub kinds_len : length fits.kinds.items ≡ file.last + 2
  pub backs_len : length fits.backs.items ≡ file.last + 2
