use Rattle.std.proofs.Common.{◌≡◌, ◌+◌, map, take}
use Rattle.bdb_mkhash.proofs.Common.{AreFilled, units_seen}
use Rattle.bdb_mkhash.proofs.fill.fill_buckets.Given as goal

-- The buckets passed are filled.
abbrev pub invariant-loop-units : goal.invariant-loop-units
invariant-loop-units l =
    (l.page ≡ l.first + l.units-index)
    × AreFilled l.first l.fn.pages l.pages l.sorted (take l.units-index (map (λ bucket. units_seen bucket.items) l.buckets))
