use Rattle.std.proofs.Common.{◌*◌, ◌<◌, ◌≤◌, ℕ, ◌^◌}
use Rattle.bdb_mkhash.proofs.buckets.bits_for.Given as goal

-- So few buckets are not enough.
abbrev pub invariant-loop-bits : goal.invariant-loop-bits
invariant-loop-bits l = (k : ℕ) → 1 ≤ k → k < l.bits → 2 ^ k * l.half < l.cost
