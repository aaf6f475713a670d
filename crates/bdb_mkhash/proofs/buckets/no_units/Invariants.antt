use Rattle.std.proofs.Common.{◌≡◌, [], map, replicate}
use Rattle.bdb_mkhash.specs.Units.{units_seen}
use Rattle.bdb_mkhash.proofs.buckets.no_units.Given as goal

-- So many buckets are there.
abbrev pub invariant-loop-bucket : goal.invariant-loop-bucket
invariant-loop-bucket l = map (λ bucket. units_seen bucket.items) l.buckets.items ≡ replicate l._bucket []
