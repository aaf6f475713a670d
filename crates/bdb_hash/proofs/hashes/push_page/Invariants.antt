use Rattle.std.proofs.Common.{◌≡◌, ◌++◌, map}
use Rattle.bdb_buckets.specs.Chained.{AreOf}
use Rattle.bdb_hash.specs.Passed.{key_hash}
use Rattle.bdb_hash.proofs.hashes.push_page.Given as goal

-- The hashes so far and those of the pairs that are left are those of all.
abbrev pub invariant-loop-pair : goal.invariant-loop-pair
invariant-loop-pair l = record {
  hashed : l.hashes.items ++ map key_hash l.pair-iterator ≡ l.fn.hashes.items ++ map key_hash l.fn.page;
  same : l.known ≡ l.fn.known;
  here : AreOf l.fn.known l.pair-iterator;
}
