use Rattle.std.proofs.Common.{◌≤◌, ◌-◌, drop, length}
use Rattle.bdb_mktree.proofs.Common.{pairs_of, slice_seen, ArePushed, keyed_units}
use Rattle.bdb_mktree.proofs.build.push_keys.Given as goal

-- The keys before the place are pushed.
abbrev pub invariant-loop-start : goal.invariant-loop-start
invariant-loop-start l =
    (l.start ≤ length (pairs_of l.list))
    × ArePushed l.fn.builder l.builder l.fn.pages l.pages (keyed_units (pairs_of l.fn.list)) (keyed_units (drop l.start (pairs_of l.fn.list)))

abbrev pub decreases-loop-start : goal.decreases-loop-start
decreases-loop-start l = length (slice_seen l.list) - l.start
