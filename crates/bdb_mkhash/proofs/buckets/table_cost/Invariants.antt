use Rattle.std.proofs.Common.{◌≡◌, ◌+◌, ◌-◌, ◌≤◌, drop, length}
use Rattle.bdb_mkhash.proofs.Common.{pairs_of, slice_seen, table_cost, table_units}
use Rattle.bdb_mkhash.proofs.buckets.table_cost.Given as goal

-- The keys passed have the cost.
abbrev pub invariant-loop-start : goal.invariant-loop-start
invariant-loop-start l =
    (l.start ≤ length (pairs_of l.list))
    × (l.cost + table_cost l.size (table_units (drop l.start (pairs_of l.fn.list))) ≡ table_cost l.size (table_units (pairs_of l.fn.list)))

abbrev pub decreases-loop-start : goal.decreases-loop-start
decreases-loop-start l = length (slice_seen l.list) - l.start
