use Rattle.std.proofs.Common.{◌≡◌, ◌-◌, ◌^◌, length, min}
use Rattle.std.specs.List.{flat_map, range_with_len}
use Rattle.bdb_buckets.specs.Told.{bucket_told}
use Rattle.bdb_hash_list.proofs.ranking.count_pairs.Given as goal

-- The pairs of the buckets so far.
abbrev pub invariant-loop-b : goal.invariant-loop-b
invariant-loop-b l = l.count ≡ min (length (flat_map (bucket_told l.linked l.meta) (range_with_len 0 l.b))) (2 ^ 64 - 1)
