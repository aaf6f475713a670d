use Rattle.std.proofs.Common.{◌+◌}
use Rattle.bdb_buckets.specs.Told.{IsSought, bucket_told}
use Rattle.bdb_buckets.specs.of_format.Terms.{file_of}
use Rattle.bdb_hash_list.proofs.lookup.find_in.Given as goal

-- No page passed has a pair with the key, and each took a step.
abbrev pub invariant-loop-page : goal.invariant-loop-page
invariant-loop-page g l = IsSought l.key (bucket_told l.linked l.meta l.bucket) l.page-iterator (l.fn.steps + (file_of l.linked).count) l.steps
