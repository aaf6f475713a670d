use Rattle.bdb_buckets.specs.Places.{IsCollected}
use Rattle.bdb_buckets.specs.Told.{joined_pages}
use Rattle.bdb_hash_list.proofs.ranking.push_bucket.Given as goal

-- The places of the pairs of the pages so far were added.
abbrev pub invariant-loop-page : goal.invariant-loop-page
invariant-loop-page l = IsCollected l.fn.places.items l.places.items (joined_pages l.fn.pages) (joined_pages l.page-iterator)
