use Rattle.std.proofs.Common.{◌≡◌, find}
use Rattle.bdb_buckets.specs.Told.{has_key}
use Rattle.bdb_hash_list.proofs.lookup.find_on.Given as goal

-- No pair passed has the key.
abbrev pub invariant-loop-pair : goal.invariant-loop-pair
invariant-loop-pair l = find (has_key l.key) l.pair-iterator ≡ find (has_key l.key) l.fn.page
