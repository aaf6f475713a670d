use Rattle.std.proofs.Common.{◌≢◌, ℕ, ◌+◌, ◌<◌, slice_index}
use Rattle.bdb_hash.proofs.repeats.has_twice.Given as goal

-- No two that follow each other so far are the same.
abbrev pub invariant-loop-i : goal.invariant-loop-i
invariant-loop-i l = (k : ℕ) → k + 1 < l.i → slice_index l.numbers.items k ≢ slice_index l.numbers.items (k + 1)
