use Rattle.std.proofs.Common.{◌-◌, ◌≤◌, drop, length, map}
use Rattle.bdb_mkhash.proofs.Common.{pairs_of, slice_seen, table_units, units_seen}
use Rattle.bdb_mkhash.proofs.BucketLemmas.{AreDealt}
use Rattle.bdb_mkhash.proofs.buckets.deal.Given as goal

-- The keys passed are dealt.
abbrev pub invariant-loop-start : goal.invariant-loop-start
invariant-loop-start l =
    (l.start ≤ length (pairs_of l.list))
    × AreDealt l.bits (table_units (pairs_of l.fn.list)) (table_units (drop l.start (pairs_of l.fn.list)))
    (map (λ bucket. units_seen bucket.items) l.buckets.items)

abbrev pub decreases-loop-start : goal.decreases-loop-start
decreases-loop-start l = length (slice_seen l.list) - l.start
