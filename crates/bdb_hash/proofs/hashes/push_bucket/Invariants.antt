use Rattle.std.proofs.Common.{◌≡◌, ◌++◌, map}
use Rattle.bdb_buckets.specs.Chained.{AreAllOf}
use Rattle.bdb_hash.specs.Passed.{key_hash}
use Rattle.bdb_buckets.specs.Told.{joined_pages}
use Rattle.bdb_hash.proofs.hashes.push_bucket.Given as goal

-- The hashes so far and those of the pages that are left are those of all.
abbrev pub invariant-loop-page : goal.invariant-loop-page
invariant-loop-page l = record {
  hashed : l.hashes.items ++ map key_hash (joined_pages l.page-iterator) ≡ l.fn.hashes.items ++ map key_hash (joined_pages l.fn.pages);
  same : l.known ≡ l.fn.known;
  here : AreAllOf l.fn.known l.page-iterator;
}
