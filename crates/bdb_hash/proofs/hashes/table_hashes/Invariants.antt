use Rattle.std.proofs.Common.{◌≡◌, map}
use Rattle.std.specs.List.{flat_map, range_with_len}
use Rattle.bdb_hash.specs.Passed.{key_hash}
use Rattle.bdb_buckets.specs.Told.{bucket_told}
use Rattle.bdb_hash.proofs.hashes.table_hashes.Given as goal

-- The hashes of the buckets so far.
abbrev pub invariant-loop-b : goal.invariant-loop-b
invariant-loop-b l = record {
  hashed : l.hashes.items ≡ map key_hash (flat_map (bucket_told l.linked l.meta) (range_with_len 0 l.b));
  here : l.known ≡ l.linked;
}
