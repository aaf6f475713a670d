use Rattle.std.proofs.Common.{◌≡◌, ◌+◌, ◌-◌, ◌^◌, ◌<◌, length, min}
use Rattle.bdb_buckets.specs.Told.{joined_pages}
use Rattle.bdb_hash_list.proofs.ranking.count_bucket.Given as goal

-- The pairs so far, and those of the pages that are left, are all.
abbrev pub invariant-loop-page : goal.invariant-loop-page
invariant-loop-page l =
    (min (l.count + length (joined_pages l.page-iterator)) (2 ^ 64 - 1) ≡ min (l.initial.count + length (joined_pages l.fn.pages))
    (2 ^ 64 - 1)) × (l.count < 2 ^ 64)
