use Rattle.std.specs.List.{flat_map, range_with_len}
use Rattle.bdb_buckets.specs.Places.{AreAt}
use Rattle.bdb_buckets.specs.Told.{bucket_told}
use Rattle.bdb_hash_list.proofs.ranking.table_places.Given as goal

-- The places of the pairs of the buckets so far.
abbrev pub invariant-loop-b : goal.invariant-loop-b
invariant-loop-b l = AreAt l.places.items (flat_map (bucket_told l.linked l.meta) (range_with_len 0 l.b))
