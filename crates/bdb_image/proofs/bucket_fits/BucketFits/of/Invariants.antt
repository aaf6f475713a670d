use Rattle.std.proofs.Common.{◌≡◌, ℕ, ◌+◌, List, length}
use Rattle.bdb_faults.specs.of_format.Terms.{File, file_of}
use Rattle.bdb_image.specs.Buckets.{AreLasts}
use Rattle.bdb_image.proofs.bucket_fits.BucketFits.of.Given as goal

-- The last pages that fail are known below each page so far.
pub record AreJudged (file : File) (kinds backs : List ℕ) (page : ℕ) : Type 0 where
  pub of_type : AreLasts file 2 kinds
  pub of_back : AreLasts file 4 backs
  pub kinds_len : length kinds ≡ page + 1
  pub backs_len : length backs ≡ page + 1

abbrev pub invariant-loop-page : goal.invariant-loop-page
invariant-loop-page l = AreJudged (file_of l.formed) l.kinds.items l.backs.items l.page
