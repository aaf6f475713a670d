use Rattle.std.proofs.Common.{◌≡◌, ℕ, ◌+◌, ◌<◌, true, slice_index}
use Rattle.bdb_hash.specs.Passed.{is_among}
use Rattle.bdb_hash.proofs.hashes.repeated_of.Given as goal

-- Those that are the same as the next one so far are among those found.
abbrev pub invariant-loop-i : goal.invariant-loop-i
invariant-loop-i l =
    (k : ℕ) → k + 1 < l.i → slice_index l.numbers.items k ≡ slice_index l.numbers.items (k + 1) → is_among l.twice (slice_index l.numbers.items k) ≡ true
