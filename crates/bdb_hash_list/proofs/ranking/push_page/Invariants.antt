use Rattle.bdb_buckets.specs.Places.{IsCollected}
use Rattle.bdb_hash_list.proofs.ranking.push_page.Given as goal

-- The places of the pairs so far were added.
abbrev pub invariant-loop-pair : goal.invariant-loop-pair
invariant-loop-pair l = IsCollected l.fn.places.items l.places.items l.fn.page l.pair-iterator
